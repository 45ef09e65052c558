-- Circuits as contracts see them: inputs, equations and outputs, by wires.
use Rattle.std.specs.Prelude.{◌≡◌, ℕ, ◌+◌, ◌<◌, false, List, [], ◌∷◌}
use Rattle.lnet_edge.specs.declared.circuit.Rule.{Rule}
use Rattle.lnet_edge.specs.declared.circuit.Rule.TheVariants.{And}
use Rattle.lnet_edge.specs.declared.circuit.WireRef.{WireRef}
use Rattle.lnet_edge.specs.declared.circuit.InputPort.{InputPort}
use Rattle.lnet_edge.specs.declared.circuit.OutputPort.{OutputPort}

-- an equation drives its target by its rule from the list of its operands
pub record EquationValue : Type 0 where
  pub target : ℕ
  pub rule : Rule
  pub operands : List WireRef

-- the inputs and the outputs in order, and the equations as the file has them
pub record CircuitValue : Type 0 where
  pub inputs : List InputPort
  pub outputs : List OutputPort
  pub equations : List EquationValue

-- the most inputs and equations, together, of a circuit that a network holds or that is read or written by numbers
abbrev pub circuit_limit : ℕ
circuit_limit = 1048576

-- the most outputs of a circuit
abbrev pub output_limit : ℕ
output_limit = 100000000

-- fewer names than this are numbered, so that each wire and the count of them fit u32
abbrev pub wire_limit : ℕ
wire_limit = 4294967295

-- P holds of each item and its place, from this place on
abbrev pub AllFrom : {A : Type 0} → (ℕ → A → Type 0) → ℕ → List A → Type 0
AllFrom P i [] = Unit {0}
AllFrom P i (x ∷ xs) = P i x × AllFrom P (i + 1) xs

-- an And of two operands, each a wire below the target
abbrev pub IsGateAt : ℕ → EquationValue → Type 0
IsGateAt target e = (a : WireRef) × (b : WireRef) × (e ≡ record { target = target; rule = And false; operands = a ∷ b ∷ [] }) × (a.wire.0 < target) × (b.wire.0 < target)
