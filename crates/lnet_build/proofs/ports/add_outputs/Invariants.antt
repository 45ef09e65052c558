use Rattle.lnet_hashed.specs.Watches.{IsBare}
use Rattle.std.proofs.Common.{◌≡◌, ◌+◌, ◌-◌, ◌≤◌, length, drop, map}
use Rattle.lnet_edge.specs.declared.circuit.OutputPort.{OutputPort}
use Rattle.lnet_model.specs.Dags.{OUTPUTS}
use Rattle.lnet_build.specs.Built.{with_outputs}
use Rattle.lnet_build.specs.Signals.{AreSignalsLive, read_in}
use Rattle.lnet_build.proofs.ports.add_outputs.Given as goal

abbrev pub invariant-loop-port : goal.invariant-loop-port
invariant-loop-port g l = record {
  few : length l.net.core.network.outputs + (length l.ports - l.port-index) ≤ OUTPUTS;
  live : AreSignalsLive l.net.core.network l.signals;
  none : IsBare l.net.watch;
  so_far : with_outputs l.net.core.network (map (λ (p : OutputPort). read_in l.signals p.source) (drop l.port-index l.ports)) ≡ with_outputs l.initial.net.core.network (map (λ (p : OutputPort). read_in l.signals p.source) l.ports);
}
