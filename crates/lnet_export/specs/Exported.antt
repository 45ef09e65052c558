-- The circuit that a network is: a wire for each input and each gate, and an equation for each gate. Source: circuits of
-- equations as in the Berkeley Logic Interchange Format; the numbering of the wires and the order are this project's own.
use Rattle.std.specs.Prelude.{ℕ, ◌+◌, ◌^◌, Bool, true, false, not, cond, eqb, List, [], ◌∷◌, length, map, zip, flat_map, filter_map, option_map, Option, None, Some}
use Rattle.std.specs.List.{range_with_len}
use Rattle.std.specs.FinMap.{entries}
use Rattle.lnet_tables.specs.Bits.{is_set, number_by}
use Rattle.lnet_gates.specs.declared.signal.Signal.{Signal}
use Rattle.lnet_gates.specs.declared.gate.Op.{Op}
use Rattle.lnet_gates.specs.declared.gate.Op.TheVariants.{And, Xor, Maj, Lut}
use Rattle.lnet_gates.specs.Gates.{GateValue}
use Rattle.lnet_model.specs.Networks.{NetworkValue, Entry, Constant, Input, IsGate, entry_at, gate_at, live_count}
use Rattle.lnet_model.specs.Levels.{level}
use Rattle.lnet_edge.specs.declared.circuit.Rule.{Rule}
use Rattle.lnet_edge.specs.declared.circuit.Rule.TheVariants as rule
use Rattle.lnet_edge.specs.declared.circuit.WireRef.{WireRef}
use Rattle.lnet_edge.specs.declared.circuit.InputPort.{InputPort}
use Rattle.lnet_edge.specs.declared.circuit.OutputPort.{OutputPort}
use Rattle.lnet_edge.specs.Circuits.{CircuitValue, EquationValue}
use Rattle.lnet_names.specs.NameLists.{NamesValue}

-- ---- wires

-- the wire of what stands at a number: its number for an input and for a gate, and wire 0 for a constant
abbrev pub wire_for : ℕ → Option Entry → ℕ
wire_for n None = 0
wire_for n (Some Constant) = 0
wire_for n (Some (Input k)) = n
wire_for n (Some (IsGate g)) = n

abbrev pub wire_at : NetworkValue → ℕ → ℕ
wire_at N n = wire_for n (entry_at N n)

-- a signal as the use of a wire
abbrev pub ref_in : NetworkValue → Signal → WireRef
ref_in N s = record { wire = record { 0 = wire_at N s.node.0 }; complement = s.complement }

-- ---- equations

-- a table's complement within the rows of n variables
abbrev pub turned : ℕ → ℕ → ℕ
turned n t = number_by (λ r. not (is_set t r)) (2 ^ n)

-- a table of n variables, complemented where the phase is true
abbrev pub phased : Bool → ℕ → ℕ → ℕ
phased phase n t = cond phase (turned n t) t

-- the rule of an operation of this phase on n operands
abbrev pub rule_for : Op → Bool → ℕ → Rule
rule_for And phase n = rule.And phase
rule_for Xor phase n = rule.Xor phase
rule_for Maj phase n = rule.Maj phase
rule_for (Lut t) phase n = rule.Lut (phased phase n t)

abbrev pub rule_of : GateValue → Rule
rule_of g = rule_for g.op g.phase (length g.fanins)

-- a gate drives the wire of its number by its rule from its fanins, in their order and with their complements
abbrev pub equation_in : NetworkValue → ℕ → GateValue → EquationValue
equation_in N n g = record { target = n; rule = rule_of g; operands = map (ref_in N) g.fanins }

-- the equation of the gate at a number
abbrev pub equation_at : NetworkValue → ℕ → Option EquationValue
equation_at N n = option_map (equation_in N n) (gate_at N n)

-- ---- order

-- the number of a gate, where it has level l
abbrev pub leveled : NetworkValue → ℕ → ℕ → Entry → List ℕ
leveled N l n Constant = []
leveled N l n (Input k) = []
leveled N l n (IsGate g) = cond (eqb (level N n) l) (n ∷ []) []

-- the gates of level l, ascending
unfoldable pub gates_of_level : NetworkValue → ℕ → List ℕ
gates_of_level N l = flat_map (λ e. leveled N l e.0 e.1) (entries N.nodes)

-- all gates, level by level from the lowest; no level is above the count of the live numbers
unfoldable pub gates_in_order : NetworkValue → List ℕ
gates_in_order N = flat_map (gates_of_level N) (range_with_len 0 (live_count N + 1))

-- ---- circuits

-- the equations of all gates, in order
unfoldable pub equations_in : NetworkValue → List EquationValue
equations_in N = filter_map (equation_at N) (gates_in_order N)

-- an input and its name
abbrev pub input_port : ℕ × Option (List ℕ) → InputPort
input_port p = record { wire = record { 0 = p.0 }; name = p.1 }

-- an output and its name
abbrev pub output_port : NetworkValue → Signal × Option (List ℕ) → OutputPort
output_port N p = record { source = ref_in N p.0; name = p.1 }

-- the circuit of a network: the inputs and the outputs in order with their names, and between them the gates
abbrev pub exported : NetworkValue → NamesValue → CircuitValue
exported N names = record {
  inputs = map input_port (zip N.inputs names.inputs);
  outputs = map (output_port N) (zip N.outputs names.outputs);
  equations = equations_in N;
}
