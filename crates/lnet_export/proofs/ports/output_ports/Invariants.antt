use Rattle.std.proofs.Common.{◌≡◌, map, zip, take}
use Rattle.lnet_export.specs.Exported.{output_port}
use Rattle.lnet_export.proofs.ports.output_ports.Given as goal

abbrev pub invariant-loop-k : goal.invariant-loop-k
invariant-loop-k g l = l.ports.items ≡ take l.k (map (output_port l.net.core.network) (zip l.net.core.network.outputs l.names.outputs))
