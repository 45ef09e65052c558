-- The lists of a circuit, statement by statement.
use Rattle.std.specs.Prelude.{ℕ, Bool, List, [], ◌∷◌, ◌++◌, length, Some, IsTrue, if◌then◌else◌}
use Rattle.lnet_edge.specs.declared.circuit.Rule.{Rule}
use Rattle.lnet_edge.specs.declared.circuit.Rule.TheVariants.{Lut}
use Rattle.lnet_edge.specs.declared.circuit.InputPort.{InputPort}
use Rattle.lnet_edge.specs.declared.circuit.OutputPort.{OutputPort}
use Rattle.lnet_edge.specs.declared.circuit.WireRef.{WireRef}
use Rattle.lnet_edge.specs.Circuits.{EquationValue, CircuitValue}
use Rattle.lnet_edge.specs.CircuitLists.{equation_views}
use Rattle.lnet_edge.specs.Wires.{HasArity}
use Rattle.lnet_wires.specs.Naming.{with_name, wire_of}
use Rattle.lnet_bench.specs.declared.wiring.Driven.{Driven}
use Rattle.lnet_bench.specs.declared.listing.Lists.{Lists}
use Rattle.lnet_bench.specs.Statements.{is_name, StatementValue, Input, Output, Gate, Constant}
use Rattle.lnet_bench.specs.Wiring.{refer, refer_all}

-- the names that were seen, and the lists so far
pub record Listed : Type 0 where
  pub names : List (List ℕ)
  pub inputs : List InputPort
  pub outputs : List OutputPort
  pub equations : List EquationValue

-- a port's name is one, and a rule takes so many operands
abbrev pub Fits : StatementValue → Type 0
Fits (Input name) = IsTrue (is_name name)
Fits (Output name) = IsTrue (is_name name)
Fits (Gate target rule operands) = HasArity rule (length operands)
Fits (Constant target value) = Unit {0}

abbrev pub nothing : Listed
nothing = record { names = []; inputs = []; outputs = []; equations = [] }

-- an input drives the wire of its name
abbrev pub input_of : List (List ℕ) → List ℕ → InputPort
input_of names name = record { wire = record { 0 = wire_of names name }; name = Some name }

-- an output has its name, and shows the wire of it
abbrev pub output_of : WireRef → List ℕ → OutputPort
output_of source name = record { source = source; name = Some name }

-- a constant is a table of no operands
abbrev pub constant_rule : Bool → Rule
constant_rule value = Lut (if value then 1 else 0)

abbrev pub equation_of : ℕ → Rule → List WireRef → EquationValue
equation_of target rule operands = record { target = target; rule = rule; operands = operands }

-- the lists with a port or an equation added
abbrev pub add_input : Listed → List ℕ → Listed
add_input l name = record { names = with_name l.names name; inputs = l.inputs ++ input_of l.names name ∷ []; outputs = l.outputs; equations = l.equations }

abbrev pub add_output : Driven → Listed → List ℕ → Listed
add_output driven l name = record { names = (refer driven l.names name).1; inputs = l.inputs; outputs = l.outputs ++ output_of (refer driven l.names name).0 name ∷ []; equations = l.equations }

abbrev pub add_gate : Driven → Listed → List ℕ → Rule → List (List ℕ) → Listed
add_gate driven l target rule operands = record { names = (refer_all driven (with_name l.names target) operands).1; inputs = l.inputs; outputs = l.outputs; equations = l.equations ++ equation_of (wire_of l.names target) rule (refer_all driven (with_name l.names target) operands).0 ∷ [] }

abbrev pub add_constant : Listed → List ℕ → Bool → Listed
add_constant l target value = record { names = with_name l.names target; inputs = l.inputs; outputs = l.outputs; equations = l.equations ++ equation_of (wire_of l.names target) (constant_rule value) [] ∷ [] }

-- the lists with a statement added
abbrev pub add : Driven → Listed → StatementValue → Listed
add driven l (Input name) = add_input l name
add driven l (Output name) = add_output driven l name
add driven l (Gate target rule operands) = add_gate driven l target rule operands
add driven l (Constant target value) = add_constant l target value

-- the same of statements one after the other
abbrev pub add_all : Driven → Listed → List StatementValue → Listed
add_all driven l [] = l
add_all driven l (s ∷ ss) = add_all driven (add driven l s) ss

-- the circuit of lists
abbrev pub circuit_in : Listed → CircuitValue
circuit_in l = record { inputs = l.inputs; outputs = l.outputs; equations = l.equations }

-- what contracts see of the lists
abbrev pub lists_view : Lists → Listed
lists_view l = record { names = l.wires; inputs = l.inputs.items; outputs = l.outputs.items; equations = equation_views l.equations.items }
