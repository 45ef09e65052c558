use Rattle.std.proofs.Common.{List, ◌++◌, take}
use Rattle.lnet_edge.specs.declared.circuit.WireRef.{WireRef}
use Rattle.lnet_edge.specs.CircuitLists.{equation_views}
use Rattle.lnet_benchwriter.specs.Kept.{KnowsTurned}
use Rattle.lnet_benchwriter.specs.Nodes.{equation_uses}
use Rattle.lnet_benchwriter.proofs.complements.note_equations.Given as goal

abbrev pub invariant-loop-equation : goal.invariant-loop-equation
invariant-loop-equation l = (uses : List WireRef) → KnowsTurned l.initial.turned uses → KnowsTurned l.turned (uses ++ equation_uses (equation_views (take l.equation-index l.equations)))
