use Rattle.std.proofs.Common.{◌<◌, ◌^◌, sym, ap, ◌∙◌, arith}
use Rattle.lnet_gates.specs.Gates.{GateValue}
use Rattle.lnet_simulate.specs.Lanes.{lane_of}
use Rattle.lnet_simulate.proofs.LaneLemmas.{phase-word}
use Rattle.lnet_simulate.proofs.gates.gate_word.Goals as goal

pub returns-then-gate : goal.returns-then-gate
returns-then-gate c = λ j lt.
    let same = c.as_slice.ensures.value ∙ ap (λ (h : GateValue). h.fanins) c.gate.view_is in
    let fits : c.operation_word-word.result < 2 ^ 64 = omega arith in
    phase-word (lane_of c.args.words.now j) c.args.gate.now c.gate.inside.op c.as_slice.result.now c.operation_word-word.result j fits lt
    (ap (λ (h : GateValue). h.op) c.gate.view_is) same (sym (ap (λ (h : GateValue). h.phase) c.gate.view_is) ∙ c.if-gate.true) (c.operation_word-word.ensures j lt)
