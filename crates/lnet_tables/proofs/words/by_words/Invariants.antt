use Rattle.std.proofs.Common.{ℕ, ◌<◌, ◌≡◌, length, get_or}
use Rattle.lnet_tables.proofs.words.by_words.Given as goal

abbrev pub invariant-loop-k : goal.invariant-loop-k
invariant-loop-k g l = (length l.words ≡ 16) × ((k : ℕ) → k < l.k → goal.F-post g l.word k (get_or l.words k 0))
