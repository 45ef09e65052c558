use Rattle.std.proofs.Common.{◌≡◌, ℕ, List, ◌++◌, length, take}
use Rattle.lnet_edge.specs.CircuitLists.{equation_views}
use Rattle.lnet_edge.specs.Wires.{targets}
use Rattle.lnet_aiger.specs.Numberings.{KnowsPlaces}
use Rattle.lnet_aiger.proofs.numbering.number_equations.Given as goal

abbrev pub invariant-loop-place : goal.invariant-loop-place
invariant-loop-place l = (xs : List ℕ) → KnowsPlaces l.initial.variables xs → length xs ≡ l.first → KnowsPlaces l.variables (xs ++ take l.place (targets (equation_views l.equations)))
