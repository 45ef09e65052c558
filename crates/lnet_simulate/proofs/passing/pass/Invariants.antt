use Rattle.std.proofs.Common.{◌≡◌, length, ℕ}
use Rattle.lnet_simulate.specs.Cones.{IsBefore}
use Rattle.lnet_simulate.specs.Lanes.{AreSet, IsRight}
use Rattle.lnet_simulate.proofs.passing.pass.Given as goal

abbrev pub invariant-loop-n : goal.invariant-loop-n
invariant-loop-n g l = record {
  sized : length l.words ≡ length l.fn.words;
  inputs : AreSet l.net.core.network l.inputs l.words;
  right : (m : ℕ) → IsBefore l.order l.n-index m → IsRight l.net.core.network l.inputs l.words m;
}
