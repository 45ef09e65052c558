use Rattle.std.proofs.Common.{take}
use Rattle.std.specs.List.{AllByRecursion}
use Rattle.lnet_edge.specs.declared.circuit.Equation.{Equation}
use Rattle.lnet_edge.specs.CircuitLists.{equation_view}
use Rattle.lnet_kept.specs.Kept.{IsKeptEquation}
use Rattle.lnet_kept.proofs.keeping.keep_equations.Given as goal

abbrev pub invariant-loop-equation : goal.invariant-loop-equation
invariant-loop-equation l = AllByRecursion (λ (e : Equation). IsKeptEquation (equation_view e)) (take l.equation-index l.equations)
