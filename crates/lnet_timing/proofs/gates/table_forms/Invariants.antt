use Rattle.std.proofs.Common.{◌≤◌, length}
use Rattle.lnet_gates.specs.LutForms.{HasCount}
use Rattle.lnet_timing.proofs.gates.table_forms.Given as goal

abbrev pub invariant-loop-call : goal.invariant-loop-call
invariant-loop-call l = record {
  native : HasCount l.gate.op (length l.gate.fanins);
  few : length l.gate.fanins ≤ 6;
}
