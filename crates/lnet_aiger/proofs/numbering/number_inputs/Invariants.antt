use Rattle.std.proofs.Common.{◌≡◌, ℕ, List, ◌++◌, length, take}
use Rattle.lnet_edge.specs.Wires.{input_wires}
use Rattle.lnet_aiger.specs.Numberings.{KnowsPlaces}
use Rattle.lnet_aiger.proofs.numbering.number_inputs.Given as goal

abbrev pub invariant-loop-place : goal.invariant-loop-place
invariant-loop-place l = (xs : List ℕ) → KnowsPlaces l.initial.variables xs → length xs ≡ 1 → KnowsPlaces l.variables (xs ++ take l.place (input_wires l.inputs))
