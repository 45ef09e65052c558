use Rattle.std.proofs.Common.{◌≡◌, drop}
use Rattle.lnet_edge.specs.CircuitLists.{equation_views}
use Rattle.lnet_benchwriter.specs.Texts.{has_tables}
use Rattle.lnet_benchwriter.proofs.writing.has_tables.Given as goal

abbrev pub invariant-loop-equation : goal.invariant-loop-equation
invariant-loop-equation l = has_tables (equation_views (drop l.equation-index l.equations)) ≡ has_tables (equation_views l.equations)
