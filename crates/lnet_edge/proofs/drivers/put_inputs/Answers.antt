use Rattle.std.proofs.Common.{◌<◌, ◌+◌, ◌||◌, ◌∷◌, [], None, length, take, sym, subst, arith, Bool}
use Rattle.lnet_edge.specs.Wires.{input_wires}
use Rattle.lnet_edge.specs.Drivers.{KnowsWires}
use Rattle.lnet_edge.proofs.DriverLemmas.{KnowsWires-next, wire_at-inputs, no_equation}
use Rattle.lnet_edge.proofs.WireLemmas.{length-input_wires}
use Rattle.lnet_edge.proofs.drivers.put_inputs.Goals as goal

pub loop-input-preserved : goal.loop-input-preserved
loop-input-preserved c = record {
  wires =
      let long = length-input_wires c.args.inputs.now in
      let low : c.loop-input.input-index < length (input_wires c.args.inputs.now) = (let h = c.loop-input-test.true in omega arith) in
      subst (λ (b : Bool). KnowsWires c.insert-in-loop-input.new.self (c.loop-input.twice || b) (0 ∷ take (c.loop-input.input-index + 1) (input_wires c.args.inputs.now))) (sym c.is_some-twice.ensures)
      (KnowsWires-next c.loop-input.drivers c.insert-in-loop-input.new.self c.loop-input.twice (0 ∷ []) (input_wires c.args.inputs.now) c.loop-input.input-index c.input-item.result.wire.0 None c.in_ok-replaced.replaced c.loop-input.invariant.wires low (wire_at-inputs c.args.inputs.now c.loop-input.input-index c.input-item.result c.loop-input-test.true c.input-item.is) c.in_ok-replaced.ensures.updates c.in_ok-replaced.ensures.old);
  none = no_equation c.loop-input.drivers c.insert-in-loop-input.new.self c.input-item.result.wire.0 c.loop-input.invariant.none c.in_ok-replaced.ensures.updates;
}
