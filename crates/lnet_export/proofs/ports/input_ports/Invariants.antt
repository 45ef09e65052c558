use Rattle.std.proofs.Common.{◌≡◌, map, zip, take}
use Rattle.lnet_export.specs.Exported.{input_port}
use Rattle.lnet_export.proofs.ports.input_ports.Given as goal

abbrev pub invariant-loop-k : goal.invariant-loop-k
invariant-loop-k g l = l.ports.items ≡ take l.k (map input_port (zip l.net.core.network.inputs l.names.inputs))
