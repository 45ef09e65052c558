use Rattle.lnet_simulate.specs.Cones.{IsCone, IsPath, KeepsListed, StartsAt}
use Rattle.lnet_simulate.proofs.PathLemmas.{work}
use Rattle.lnet_simulate.proofs.cone.visit.Given as goal

abbrev pub invariant-loop-top : goal.invariant-loop-top
invariant-loop-top g l = record {
  cone : IsCone l.net.core.network l.marks l.order.items;
  path : IsPath l.net.core.network l.marks l.path.items;
  starts : StartsAt l.marks l.path.items l.fn.n;
  kept : KeepsListed l.fn.order.items l.order.items;
}

abbrev pub decreases-loop-top : goal.decreases-loop-top
decreases-loop-top g l = work l.net.core.network l.marks l.path.items
