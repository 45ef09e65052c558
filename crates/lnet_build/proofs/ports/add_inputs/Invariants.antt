use Rattle.lnet_hashed.specs.Watches.{IsBare}
use Rattle.std.proofs.Common.{◌≡◌, ◌+◌, ◌-◌, ◌≤◌, length, drop}
use Rattle.lnet_model.specs.Dags.{NUMBERS}
use Rattle.lnet_model.specs.Networks.{live_count}
use Rattle.lnet_build.specs.Built.{Building, with_ports}
use Rattle.lnet_build.specs.Signals.{AreSignalsLive, Stand}
use Rattle.lnet_build.proofs.ports.add_inputs.Given as goal

abbrev pub invariant-loop-port : goal.invariant-loop-port
invariant-loop-port g l = record {
  few : live_count l.net.core.network + (length l.ports - l.port-index) ≤ NUMBERS;
  live : AreSignalsLive l.net.core.network l.signals;
  none : IsBare l.net.watch;
  reached : (b : Building) → Stand l.initial.net.core.network l.initial.signals b → (x : Building) × Stand l.net.core.network l.signals x × (with_ports x (drop l.port-index l.ports) ≡ with_ports b l.ports);
}
