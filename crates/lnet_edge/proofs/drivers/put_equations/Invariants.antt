use Rattle.std.proofs.Common.{ℕ, List, ◌++◌, take}
use Rattle.lnet_edge.specs.CircuitLists.{equation_views}
use Rattle.lnet_edge.specs.Wires.{targets}
use Rattle.lnet_edge.specs.Drivers.{KnowsWires, KnowsEquations}
use Rattle.lnet_edge.proofs.drivers.put_equations.Given as goal

abbrev pub invariant-loop-place : goal.invariant-loop-place
invariant-loop-place l = record {
  wires : (xs : List ℕ) → KnowsWires l.fn.drivers l.before xs → KnowsWires l.drivers l.twice (xs ++ take l.place (targets (equation_views l.equations)));
  equations : KnowsEquations l.drivers l.twice (equation_views l.equations) l.place;
}
