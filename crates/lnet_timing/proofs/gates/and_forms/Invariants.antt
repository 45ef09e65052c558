use Rattle.std.proofs.Common.{length}
use Rattle.lnet_gates.specs.LutForms.{HasCount}
use Rattle.lnet_timing.proofs.gates.and_forms.Given as goal

abbrev pub invariant-loop-call : goal.invariant-loop-call
invariant-loop-call l = HasCount l.gate.op (length l.gate.fanins)
