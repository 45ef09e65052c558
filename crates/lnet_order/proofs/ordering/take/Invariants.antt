use Rattle.std.proofs.Common.{◌≡◌, length}
use Rattle.lnet_edge.specs.CircuitLists.{equation_views}
use Rattle.lnet_order.specs.Paths.{taking, finished, IsMarked, AreWithin, steps_left}
use Rattle.lnet_order.proofs.ordering.take.Given as goal

abbrev pub invariant-loop-frame : goal.invariant-loop-frame
invariant-loop-frame l = record {
  whole : finished (equation_views l.equations) l.order.items l.path.items ≡ taking (equation_views l.equations) l.fn.order.items l.wire;
  marked : IsMarked l.marks l.order.items (length l.equations);
  within : AreWithin (length l.equations) l.path.items;
}

abbrev pub decreases-loop-frame : goal.decreases-loop-frame
decreases-loop-frame l = steps_left (equation_views l.equations) l.order.items l.path.items
