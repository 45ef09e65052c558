-- The values of a circuit's wires and outputs under an assignment of its inputs. Source: the textbook meaning of the gates;
-- covers as in the Berkeley Logic Interchange Format.
use Rattle.std.specs.Prelude.{ℕ, zero, suc, ◌+◌, ◌*◌, ◌/◌, ◌%◌, ◌^◌, ◌==◌, Bool, true, false, not, ◌&&◌, ◌||◌, List, [], ◌∷◌, length, map, Option, Some, None, if◌then◌else◌}
use Rattle.std.specs.List.{list_any}
use Rattle.lnet_edge.specs.declared.circuit.Rule.{Rule}
use Rattle.lnet_edge.specs.declared.circuit.Rule.TheVariants.{And, Or, Xor, Maj, Lut, Cover}
use Rattle.lnet_edge.specs.declared.circuit.WireRef.{WireRef}
use Rattle.lnet_edge.specs.declared.circuit.InputPort.{InputPort}
use Rattle.lnet_edge.specs.declared.circuit.OutputPort.{OutputPort}
use Rattle.lnet_edge.specs.Covers.{CoverValue}
use Rattle.lnet_edge.specs.Circuits.{CircuitValue, EquationValue}

-- ---- rules

-- a bit, complemented where the flag is set
abbrev pub complemented : Bool → Bool → Bool
complemented true b = not b
complemented false b = b

-- whether all are true
abbrev pub all_bits : List Bool → Bool
all_bits [] = true
all_bits (b ∷ bs) = b && all_bits bs

-- whether some is true
abbrev pub any_bit : List Bool → Bool
any_bit [] = false
any_bit (b ∷ bs) = b || any_bit bs

-- whether an odd number is true
abbrev pub parity : List Bool → Bool
parity [] = false
parity (b ∷ bs) = complemented b (parity bs)

-- whether two or three of three are true
abbrev pub majority : List Bool → Bool
majority (a ∷ b ∷ c ∷ []) = (a && b) || (a && c) || (b && c)
majority _ = false

-- the number whose bit i is bit i of the list
abbrev pub row_number : List Bool → ℕ
row_number [] = 0
row_number (b ∷ bs) = (if b then 1 else 0) + 2 * row_number bs

-- bit k of a number
abbrev pub table_bit : ℕ → ℕ → Bool
table_bit t k = (t / 2 ^ k) % 2 == 1

-- what a row says of one operand: `0` that it is false, `1` that it is true, and `-` nothing
abbrev pub cell_holds : ℕ → Bool → Bool
cell_holds cell b = if cell == 48 then not b else if cell == 49 then b else true

-- whether each operand is as the row says
abbrev pub row_holds : List ℕ → List Bool → Bool
row_holds (cell ∷ row) (b ∷ bits) = cell_holds cell b && row_holds row bits
row_holds _ _ = true

-- the union of the rows, complemented where their value is false; false without rows
abbrev pub cover_value : CoverValue → List Bool → Bool
cover_value cover bits = if length cover.rows == 0 then false else complemented (not cover.value) (list_any (λ row. row_holds row bits) cover.rows)

-- the meaning of a rule on the values of its operands
abbrev pub under_rule : Rule → List Bool → Bool
under_rule (And complement) bits = complemented complement (all_bits bits)
under_rule (Or complement) bits = complemented complement (any_bit bits)
under_rule (Xor complement) bits = complemented complement (parity bits)
under_rule (Maj complement) bits = complemented complement (majority bits)
under_rule (Lut table) bits = table_bit table (row_number bits)
under_rule (Cover cover) bits = cover_value cover bits

-- ---- wires

-- the place, counted from i, of the first input that drives wire w
abbrev pub input_place : ℕ → ℕ → List InputPort → Option ℕ
input_place i w [] = None
input_place i w (p ∷ ps) = if p.wire.0 == w then Some i else input_place (i + 1) w ps

-- the first equation that drives wire w
abbrev pub equation_at : ℕ → List EquationValue → Option EquationValue
equation_at w [] = None
equation_at w (e ∷ es) = if e.target == w then Some e else equation_at w es

-- an equation's value by the values of its operands; a wire that nothing drives is false
abbrev pub driven : (WireRef → Bool) → Option EquationValue → Bool
driven v None = false
driven v (Some e) = under_rule e.rule (map v e.operands)

abbrev pub input_or : Option ℕ → (ℕ → Bool) → Bool → Bool
input_or (Some k) a other = a k
input_or None a other = other

-- The value of wire w, by recursion over the equations to the given depth, where input k has the value a k.
unfoldable pub wire_value : ℕ → CircuitValue → (ℕ → Bool) → ℕ → Bool
wire_value zero c a w = false
wire_value (suc n) c a w = input_or (input_place 0 w c.inputs) a (driven (λ r. complemented r.complement (wire_value n c a r.wire.0)) (equation_at w c.equations))

-- A wire without cycles hangs on as many equations as there are at most, and the depth counts the wire itself too.
abbrev pub value_of : CircuitValue → (ℕ → Bool) → ℕ → Bool
value_of c a w = wire_value (suc (length c.equations)) c a w

-- the value of a wire as it is used
abbrev pub ref_value : CircuitValue → (ℕ → Bool) → WireRef → Bool
ref_value c a r = complemented r.complement (wire_value (suc (length c.equations)) c a r.wire.0)

-- the values of the outputs
unfoldable pub circuit_outputs : CircuitValue → (ℕ → Bool) → List Bool
circuit_outputs c a = map (λ (p : OutputPort). ref_value c a p.source) c.outputs
