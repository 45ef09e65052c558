use Rattle.std.proofs.Common.{◌<◌, ◌+◌, length, arith}
use Rattle.lnet_edge.specs.Wires.{input_wires}
use Rattle.lnet_edge.proofs.DriverLemmas.{wire_at-inputs}
use Rattle.lnet_edge.proofs.WireLemmas.{length-input_wires}
use Rattle.lnet_aiger.proofs.Places.{KnowsPlaces-next}
use Rattle.lnet_aiger.proofs.numbering.number_inputs.Goals as goal

pub loop-place-preserved : goal.loop-place-preserved
loop-place-preserved c = λ xs knows first.
    let long = length-input_wires c.args.inputs.now in
    let low : c.loop-place.place < length (input_wires c.args.inputs.now) = (let h = c.loop-place-test.true in omega arith) in
    KnowsPlaces-next c.loop-place.variables c.number_wire.new.variables xs (input_wires c.args.inputs.now) c.loop-place.place c.index-inputs-place.result.wire.0 (c.loop-place.place + 1) 1 low (wire_at-inputs c.args.inputs.now c.loop-place.place c.index-inputs-place.result c.loop-place-test.true c.index-inputs-place.is) first (omega arith) c.in_ok-number_wire.ensures (c.loop-place.invariant xs knows first)
