use Rattle.std.proofs.Common.{◌≡◌, ◌+◌, ◌≤◌}
use Rattle.lnet_model.specs.Networks.{gate_count}
use Rattle.lnet_print.proofs.Numbered.{gates_from}
use Rattle.lnet_print.proofs.counting.gate_count.Given as goal

-- the gates below n are counted
abbrev pub invariant-loop-n : goal.invariant-loop-n
invariant-loop-n g l = record {
  few : l.count ≤ l.n;
  count : l.count + gates_from l.net.core.network l.n ≡ gate_count l.net.core.network;
}
