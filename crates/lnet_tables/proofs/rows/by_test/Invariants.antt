use Rattle.std.proofs.Common.{◌≤◌, ℕ, ◌<◌, ◌≡◌, false}
use Rattle.lnet_tables.specs.Words.{word_bit}
use Rattle.lnet_tables.proofs.rows.by_test.Given as goal

abbrev pub invariant-loop-row : goal.invariant-loop-row
invariant-loop-row g l =
    ((k : ℕ) → k < l.row → goal.F-post g l.test k (word_bit l.words k))
    × ((k : ℕ) → l.row ≤ k → word_bit l.words k ≡ false)
