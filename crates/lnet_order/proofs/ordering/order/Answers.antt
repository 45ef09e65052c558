use Rattle.std.proofs.Common.{List, [], sym, ap, subst, ◌∙◌, length, All, ◌<◌}
use Rattle.lnet_edge.specs.declared.circuit.OutputPort.{OutputPort}
use Rattle.lnet_edge.specs.CircuitLists.{equation_views}
use Rattle.lnet_edge.specs.Wires.{output_wires}
use Rattle.lnet_edge.proofs.ValueLemmas.{short_walks}
use Rattle.lnet_order.specs.Orders.{order_of, in_turn}
use Rattle.lnet_order.specs.Paths.{taking, AreWalksShort, IsMarked}
use Rattle.lnet_order.proofs.CallLemmas.{outputs-next, outputs-all, order-below, written-whole}
use Rattle.lnet_order.proofs.ordering.order.Goals as goal

pub take-requires-clause-short : goal.take-requires-clause-short
take-requires-clause-short c = subst AreWalksShort (sym c.equations-equations.ensures.value) (short_walks c.args.circuit.now c.equations-equations.ensures.circuit.acyclic)

pub loop-output-preserved : goal.loop-output-preserved
loop-output-preserved c =
    record {
      so_far = outputs-next (taking (equation_views c.equations-equations.result.now)) c.outputs-outputs.result.now c.loop-output.output-index c.output-item.result c.loop-output.order.items c.take.new.order.items c.loop-output-test.true c.output-item.is c.loop-output.invariant.so_far c.in_ok-take.ensures.order;
      marked = subst (λ marks. IsMarked marks c.take.new.order.items (length c.equations-equations.result.now))
          (sym (written-whole c.loop-output.marks.len c.take.new.marks c.loop-output.marks.items (c.in_ok-take.ensures.marked.sized) (c.loop-output.invariant.marked.sized) c.loop-output.marks.ok.0)) c.in_ok-take.ensures.marked;
      empty = c.in_ok-take.ensures.end;
    }

order-is : goal.returns-clause-order
unfolding order_of
order-is c =
    c.loop-output.invariant.so_far
    ∙ outputs-all (taking (equation_views c.equations-equations.result.now)) c.outputs-outputs.result.now c.loop-output.output-index c.loop-output-test.false
    ∙ ap (λ es. in_turn (taking es) [] (output_wires c.outputs-outputs.result.now)) c.equations-equations.ensures.value
    ∙ ap (λ (os : List OutputPort). in_turn (taking c.args.circuit.now.equations) [] (output_wires os)) c.outputs-outputs.ensures

pub returns-clause-order : goal.returns-clause-order
returns-clause-order c = order-is c

pub returns-clause-within : goal.returns-clause-within
returns-clause-within c = subst (All (λ k. k < length c.args.circuit.now.equations)) (sym (order-is c)) (order-below c.args.circuit.now)
