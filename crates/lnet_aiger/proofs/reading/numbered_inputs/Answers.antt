use Rattle.std.proofs.Common.{◌+◌, None, sym, arith}
use Rattle.std.proofs.lemmas.List.FromFn.{map-range_with_len_more}
use Rattle.lnet_edge.specs.declared.circuit.InputPort.{InputPort}
use Rattle.lnet_aiger.proofs.reading.numbered_inputs.Goals as goal

pub loop-place-preserved : goal.loop-place-preserved
loop-place-preserved c =
    rw (c.in_ok-push.ensures.items, c.loop-place.invariant) (sym (map-range_with_len_more {X = InputPort} (λ k. record { wire = record { 0 = k + 1 }; name = None }) 0 c.loop-place.place c.loop-place.place (omega arith)))
