use Rattle.std.proofs.Common.{◌≡◌, ℕ, ◌≤◌, ◌<◌, ◌⊎◌, true, length}
use Rattle.lnet_numbers.specs.Words.{bit}
use Rattle.lnet_numbers.proofs.number_set.fill.Given as goal

abbrev pub invariant-numbers : goal.invariant-numbers
invariant-numbers l = record {
  filled : (n : ℕ) → l.from ≤ n → n < l.n → bit l.levels n ≡ true;
  others : (n : ℕ) → (n < l.from) ⊎ (l.n ≤ n) → bit l.levels n ≡ bit l.fn.levels n;
  len : length l.levels ≡ length l.fn.levels;
}
