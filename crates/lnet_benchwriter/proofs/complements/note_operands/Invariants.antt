use Rattle.std.proofs.Common.{List, ◌++◌, take}
use Rattle.lnet_edge.specs.declared.circuit.WireRef.{WireRef}
use Rattle.lnet_benchwriter.specs.Kept.{KnowsTurned}
use Rattle.lnet_benchwriter.proofs.complements.note_operands.Given as goal

abbrev pub invariant-loop-operand : goal.invariant-loop-operand
invariant-loop-operand l = (uses : List WireRef) → KnowsTurned l.initial.turned uses → KnowsTurned l.turned (uses ++ take l.operand-index l.operands)
