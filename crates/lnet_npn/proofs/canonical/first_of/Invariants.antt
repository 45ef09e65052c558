use Rattle.std.proofs.Common.{◌≢◌, ℕ, Bool, ◌<◌}
use Rattle.lnet_npn.specs.Exchanges.{choice}
use Rattle.lnet_npn.proofs.canonical.first_of.Given as goal

abbrev pub invariant-loop-flips : goal.invariant-loop-flips
invariant-loop-flips l = (f : ℕ) (o : Bool) → f < l.flips → choice l.images f o ≢ l.word
