use Rattle.std.proofs.Common.{List, ◌++◌, take}
use Rattle.lnet_edge.specs.declared.circuit.WireRef.{WireRef}
use Rattle.lnet_benchwriter.specs.Kept.{KnowsTurned}
use Rattle.lnet_benchwriter.specs.Nodes.{output_uses}
use Rattle.lnet_benchwriter.proofs.complements.note_outputs.Given as goal

abbrev pub invariant-loop-port : goal.invariant-loop-port
invariant-loop-port l = (uses : List WireRef) → KnowsTurned l.initial.turned uses → KnowsTurned l.turned (uses ++ output_uses (take l.port-index l.ports))
