-- The values of gates at rows of their operands other than constants. The first operand is the least significant bit of a row.
use Rattle.std.specs.Prelude.{ℕ, ◌/◌, ◌%◌, ◌==◌, Bool, not, List, [], ◌∷◌, if◌then◌else◌}
use Rattle.std.specs.List.{filter}
use Rattle.lnet_edge.specs.declared.circuit.WireRef.{WireRef}
use Rattle.lnet_edge.specs.Circuits.{EquationValue}
use Rattle.lnet_edge.specs.Values.{complemented, under_rule}

-- the operand is no constant
abbrev pub is_variable : WireRef → Bool
is_variable r = not (r.wire.0 == 0)

-- the operands that are no constants
abbrev pub variables : List WireRef → List WireRef
variables rs = filter is_variable rs

-- the values of operands at a row: a constant has its own, and the others take the row's bits, the lowest first
abbrev pub operand_values : List WireRef → ℕ → List Bool
operand_values [] row = []
operand_values (r ∷ rs) row = if r.wire.0 == 0 then r.complement ∷ operand_values rs row else complemented r.complement (row % 2 == 1) ∷ operand_values rs (row / 2)

-- the value of a gate at a row of its operands that are no constants
abbrev pub gate_value : EquationValue → ℕ → Bool
gate_value e row = under_rule e.rule (operand_values e.operands row)
