use Rattle.std.proofs.Common.{◌≡◌, ◌<◌, ℕ, length}
use Rattle.lnet_simulate.specs.Assignments.{assignment}
use Rattle.lnet_simulate.specs.Lanes.{lane}
use Rattle.lnet_simulate.proofs.simulating.constant_words.Given as goal

abbrev pub invariant-loop-bit : goal.invariant-loop-bit
invariant-loop-bit l = record {
  count : length l.words.items ≡ l.bit-index;
  lanes : (k : ℕ) → k < l.bit-index → lane l.words.items 0 k ≡ assignment l.bits k;
}
