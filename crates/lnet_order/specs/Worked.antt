-- A worked circuit whose equations stand backwards.
use Rattle.std.specs.Prelude.{ℕ, false, None, List, [], ◌∷◌, map}
use Rattle.lnet_edge.specs.declared.circuit.Rule.{Rule}
use Rattle.lnet_edge.specs.declared.circuit.Rule.TheVariants.{And, Or, Xor}
use Rattle.lnet_edge.specs.declared.circuit.WireRef.{WireRef}
use Rattle.lnet_edge.specs.Circuits.{CircuitValue, EquationValue}

abbrev pub plain_ref : ℕ → WireRef
plain_ref w = record { wire = record { 0 = w }; complement = false }

abbrev pub equation : ℕ → Rule → List ℕ → EquationValue
equation w rule ws = record { target = w; rule = rule; operands = map plain_ref ws }

-- inputs 1 and 2, and the output 5 of 4, 3 and 4, where 4 comes of the inputs, and 3 of 4 and an input; no output needs 6
abbrev pub backwards : CircuitValue
backwards = record {
  inputs = (record { wire = record { 0 = 1 }; name = None }) ∷ (record { wire = record { 0 = 2 }; name = None }) ∷ [];
  outputs = (record { source = plain_ref 5; name = None }) ∷ [];
  equations = equation 5 (And false) (4 ∷ 3 ∷ 4 ∷ []) ∷ equation 4 (Xor false) (1 ∷ 2 ∷ []) ∷ equation 6 (And false) (1 ∷ 2 ∷ []) ∷ equation 3 (Or false) (4 ∷ 2 ∷ []) ∷ [];
}
