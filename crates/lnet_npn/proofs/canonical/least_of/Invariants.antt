use Rattle.std.proofs.Common.{ℕ, Bool, ◌<◌, ◌≤◌}
use Rattle.lnet_npn.specs.Exchanges.{choice, IsAmong}
use Rattle.lnet_npn.proofs.canonical.least_of.Given as goal

abbrev pub invariant-loop-image : goal.invariant-loop-image
invariant-loop-image l = record {
  best : l.least ≤ l.best;
  below : (f : ℕ) (o : Bool) → f < l.image-index → l.least ≤ choice l.images f o;
  made : IsAmong l.images l.best l.least;
}
