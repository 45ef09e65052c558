-- The texts that are written. Inputs are variables from 1 on, gates the next ones, in the order of the circuit; of a gate's
-- operands the greater literal stands first; names follow as symbols.
use Rattle.std.specs.Prelude.{◌≡◌, ℕ, zero, suc, ◌+◌, ◌-◌, ◌*◌, ◌/◌, ◌%◌, ◌≤◌, false, List, [], ◌∷◌, ◌++◌, length, max, min, All, Option, Some, None, unwrap_or, nat_lt, ◌==◌, if◌then◌else◌, codes}
use Rattle.std.specs.List.{flat_map}
use Rattle.std.specs.Fmt.{decimal}
use Rattle.lnet_edge.specs.declared.circuit.WireRef.{WireRef}
use Rattle.lnet_edge.specs.declared.circuit.InputPort.{InputPort}
use Rattle.lnet_edge.specs.declared.circuit.OutputPort.{OutputPort}
use Rattle.lnet_edge.specs.declared.circuit.Rule.TheVariants.{And}
use Rattle.lnet_edge.specs.Circuits.{CircuitValue, EquationValue, circuit_limit}
use Rattle.lnet_edge.specs.Plain.{IsPlain}
use Rattle.lnet_edge.specs.Shown.{input_names, output_names}
use Rattle.lnet_edge.specs.Wires.{driven_wires}
use Rattle.lnet_aiger.specs.declared.body.Gate.{Gate}

-- a circuit that can be written: each equation is an And of two operands, not complemented, and stands after those it uses
pub record IsWritable (c : CircuitValue) : Type 0 where
  pub plain : IsPlain c.equations
  pub ands : All (λ (e : EquationValue). e.rule ≡ And false) c.equations
  pub few : length c.inputs + length c.equations ≤ circuit_limit

-- ---- variables and literals

-- the first place of a number in a list, counted from i
abbrev pub place_from : ℕ → ℕ → List ℕ → Option ℕ
place_from i w [] = None
place_from i w (x ∷ xs) = if x == w then Some i else place_from (i + 1) w xs

-- the variable of a wire: its place among those that are driven, the constant first, then the inputs and the equations
abbrev pub variable_of : CircuitValue → ℕ → ℕ
variable_of c w = unwrap_or (place_from 0 w (driven_wires c)) 0

-- the literal of a use of a wire
abbrev pub literal_of : (ℕ → ℕ) → WireRef → ℕ
literal_of variable r = if r.complement then 2 * variable r.wire.0 + 1 else 2 * variable r.wire.0

-- a gate by its literals, the greater operand first
abbrev pub gate_of : (ℕ → ℕ) → EquationValue → Gate
gate_of variable e = by_operands e.operands where
  by_operands : List WireRef → Gate
  by_operands (a ∷ b ∷ []) = record { target = 2 * variable e.target; first = max (literal_of variable a) (literal_of variable b); second = min (literal_of variable a) (literal_of variable b) }
  by_operands _ = record { target = 2 * variable e.target; first = 0; second = 0 }

-- ---- lines

-- the line of a number
abbrev pub number_text : ℕ → List ℕ
number_text n = decimal n ++ 10 ∷ []

-- the first line: the word of the form, and the counts
abbrev pub header_text : List ℕ → ℕ → ℕ → ℕ → List ℕ
header_text word inputs outputs gates = word ++ (decimal (inputs + gates) ++ (32 ∷ (decimal inputs ++ (codes " 0 " ++ (decimal outputs ++ (32 ∷ (decimal gates ++ 10 ∷ [])))))))

abbrev pub input_text : (ℕ → ℕ) → InputPort → List ℕ
input_text variable p = number_text (2 * variable p.wire.0)

abbrev pub output_text : (ℕ → ℕ) → OutputPort → List ℕ
output_text variable p = number_text (literal_of variable p.source)

-- a gate's line in ASCII
abbrev pub gate_text : Gate → List ℕ
gate_text g = decimal g.target ++ (32 ∷ (decimal g.first ++ (32 ∷ (decimal g.second ++ 10 ∷ []))))

-- a number in at most n groups of seven bits, as few as possible, the least significant first
unfoldable pub groups_text : ℕ → ℕ → List ℕ
groups_text zero n = []
groups_text (suc k) n = if nat_lt n 128 then n ∷ [] else (128 + n % 128) ∷ groups_text k (n / 128)

-- a gate's bytes in binary: its two differences
abbrev pub delta_text : Gate → List ℕ
delta_text g = groups_text 5 (g.target - g.first) ++ groups_text 5 (g.first - g.second)

-- ---- symbols

-- the line that names a port, if it has a name
abbrev pub symbol_text : ℕ → ℕ → Option (List ℕ) → List ℕ
symbol_text letter place None = []
symbol_text letter place (Some name) = letter ∷ (decimal place ++ (32 ∷ (name ++ 10 ∷ [])))

-- the lines that name ports, the first of which has this place
unfoldable pub symbols_text : ℕ → ℕ → List (Option (List ℕ)) → List ℕ
symbols_text letter place [] = []
symbols_text letter place (name ∷ names) = symbol_text letter place name ++ symbols_text letter (place + 1) names

-- the lines that name the ports of a circuit: `i` and `o` are the bytes 105 and 111
abbrev pub names_text : CircuitValue → List ℕ
names_text c = symbols_text 105 0 (input_names c.inputs) ++ symbols_text 111 0 (output_names c.outputs)

-- ---- texts

-- the text of a circuit in ASCII, where its wires have these variables: the header and the ports, then the gates and names
abbrev pub ports_by : (ℕ → ℕ) → CircuitValue → List ℕ
ports_by variable c = header_text (codes "aag ") (length c.inputs) (length c.outputs) (length c.equations) ++ (flat_map (input_text variable) c.inputs ++ flat_map (output_text variable) c.outputs)

abbrev pub gates_by : (ℕ → ℕ) → CircuitValue → List ℕ
gates_by variable c = flat_map (λ e. gate_text (gate_of variable e)) c.equations ++ names_text c

abbrev pub ascii_by : (ℕ → ℕ) → CircuitValue → List ℕ
ascii_by variable c = ports_by variable c ++ gates_by variable c

-- the same in binary, up to the gates and from them on
abbrev pub head_by : (ℕ → ℕ) → CircuitValue → List ℕ
head_by variable c = header_text (codes "aig ") (length c.inputs) (length c.outputs) (length c.equations) ++ flat_map (output_text variable) c.outputs

abbrev pub tail_by : (ℕ → ℕ) → CircuitValue → List ℕ
tail_by variable c = flat_map (λ e. delta_text (gate_of variable e)) c.equations ++ names_text c

abbrev pub binary_by : (ℕ → ℕ) → CircuitValue → List ℕ
binary_by variable c = head_by variable c ++ tail_by variable c

-- the texts of a circuit
abbrev pub ascii_text : CircuitValue → List ℕ
ascii_text c = ascii_by (variable_of c) c

abbrev pub binary_text : CircuitValue → List ℕ
binary_text c = binary_by (variable_of c) c
