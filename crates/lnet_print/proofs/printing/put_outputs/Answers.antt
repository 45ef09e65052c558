use Rattle.std.proofs.Common.{◌++◌, ◌+◌, ◌<◌, length, string_bytes, sym, ap, ◌∙◌, false, arith}
use Rattle.std.proofs.lemmas.Option.{slice_get-get_or}
use Rattle.lnet_gates.specs.declared.signal.Signal.{Signal}
use Rattle.lnet_print.specs.Printed.{output_line, output_lines}
use Rattle.lnet_print.proofs.Listed.{lines_after, lines-one, onward}
use Rattle.lnet_print.proofs.printing.put_outputs.Goals as goal
use Rattle.lnet_print.proofs.printing.put_outputs.Goals.{in-Some+in_ok-put_output, in_default}

pub loop-k-preserved : goal.loop-k-preserved
loop-k-preserved g c = elim c.match-output_at.branch [
  | in-Some+in_ok-put_output w ↦
      let N = c.args.net.now.core.network in
      let here = ap string_bytes w.out-is ∙ w.in_ok-put_output.ensures in
      onward (string_bytes c.loop-k.out) (string_bytes c.match-output_at.out) (output_line c.loop-k.k w.in-Some.signal) (lines_after (c.loop-k.k + 1) N.outputs) (lines_after c.loop-k.k N.outputs) (string_bytes c.args.out.now ++ output_lines 0 N.outputs)
      here (lines-one N.outputs c.loop-k.k w.in-Some.signal (sym w.in-Some.ensures.value)) c.loop-k.invariant
  | in_default w ↦
      let below : c.loop-k.k < length c.args.net.now.core.network.outputs = omega arith in
      let none : Signal = record { node = record { 0 = 0 }; complement = false } in
      absurd (w.in_default.not-Some _ (c.output_at.ensures.value ∙ slice_get-get_or c.args.net.now.core.network.outputs c.loop-k.k none below))
]
