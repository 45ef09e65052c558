use Rattle.std.proofs.Common.{◌≡◌, ◌<◌, ℕ, [], get_or}
use Rattle.lnet_gates.specs.declared.signal.Node.{Node}
use Rattle.lnet_simulate.specs.Cones.{IsCone, IsListed}
use Rattle.lnet_simulate.proofs.cone.visit_all.Given as goal

abbrev pub invariant-loop-root : goal.invariant-loop-root
invariant-loop-root g l = record {
  cone : IsCone l.net.core.network l.marks l.order.items;
  found : (k : ℕ) (d : Node) → k < l.root-index → IsListed l.order.items (get_or l.roots k d).0;
  start : l.path.items ≡ [];
}
