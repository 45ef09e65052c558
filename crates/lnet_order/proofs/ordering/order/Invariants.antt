use Rattle.std.proofs.Common.{◌≡◌, [], length, take}
use Rattle.lnet_edge.specs.CircuitLists.{equation_views}
use Rattle.lnet_edge.specs.Wires.{output_wires}
use Rattle.lnet_order.specs.Orders.{in_turn}
use Rattle.lnet_order.specs.Paths.{taking, IsMarked}
use Rattle.lnet_order.proofs.ordering.order.Given as goal

abbrev pub invariant-loop-output : goal.invariant-loop-output
invariant-loop-output l = record {
  so_far : l.order.items ≡ in_turn (taking (equation_views l.equations)) [] (take l.output-index (output_wires l.outputs));
  marked : IsMarked l.marks.items l.order.items (length l.equations);
  empty : l.path.items ≡ [];
}
