-- The circuit of statements: each name stands for a wire, by its place among the names as they are first seen.
use Rattle.std.specs.Prelude.{ℕ, List, [], ◌∷◌, map}
use Rattle.lnet_edge.specs.declared.circuit.InputPort.{InputPort}
use Rattle.lnet_edge.specs.declared.circuit.OutputPort.{OutputPort}
use Rattle.lnet_edge.specs.declared.circuit.WireRef.{WireRef}
use Rattle.lnet_edge.specs.Circuits.{EquationValue, CircuitValue}
use Rattle.lnet_wires.specs.Naming.{with_name, wire_of}
use Rattle.lnet_bench.specs.declared.wiring.Driven.{Driven}
use Rattle.lnet_bench.specs.Statements.{StatementValue, Input, Output, Gate, Constant}
use Rattle.lnet_bench.specs.Wiring.{refer, refer_all}
use Rattle.lnet_bench.specs.Listing.{input_of, output_of, equation_of, constant_rule}

-- the names once a statement is seen, and once all are; a name that is a constant isn't counted
abbrev pub see : Driven → List (List ℕ) → StatementValue → List (List ℕ)
see driven names (Input name) = with_name names name
see driven names (Output name) = (refer driven names name).1
see driven names (Gate target rule operands) = (refer_all driven (with_name names target) operands).1
see driven names (Constant target value) = with_name names target

abbrev pub see_all : Driven → List (List ℕ) → List StatementValue → List (List ℕ)
see_all driven names [] = names
see_all driven names (s ∷ ss) = see_all driven (see driven names s) ss

-- the use of a name's wire, or of the constant
abbrev pub use_of : Driven → List (List ℕ) → List ℕ → WireRef
use_of driven names name = (refer driven names name).0

-- the inputs, the outputs and the equations in the order of their statements
abbrev pub inputs_by : List (List ℕ) → List StatementValue → List InputPort
inputs_by names [] = []
inputs_by names (Input name ∷ ss) = input_of names name ∷ inputs_by names ss
inputs_by names (_ ∷ ss) = inputs_by names ss

abbrev pub outputs_by : Driven → List (List ℕ) → List StatementValue → List OutputPort
outputs_by driven names [] = []
outputs_by driven names (Output name ∷ ss) = output_of (use_of driven names name) name ∷ outputs_by driven names ss
outputs_by driven names (_ ∷ ss) = outputs_by driven names ss

abbrev pub equations_by : Driven → List (List ℕ) → List StatementValue → List EquationValue
equations_by driven names [] = []
equations_by driven names (Gate target rule operands ∷ ss) = equation_of (wire_of names target) rule (map (use_of driven names) operands) ∷ equations_by driven names ss
equations_by driven names (Constant target value ∷ ss) = equation_of (wire_of names target) (constant_rule value) [] ∷ equations_by driven names ss
equations_by driven names (_ ∷ ss) = equations_by driven names ss

-- the circuit of statements whose names have these places
abbrev pub numbered : Driven → List (List ℕ) → List StatementValue → CircuitValue
numbered driven names ss = record { inputs = inputs_by names ss; outputs = outputs_by driven names ss; equations = equations_by driven names ss }
