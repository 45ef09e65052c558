-- What contracts see of the lists of a circuit.
use Rattle.std.specs.Prelude.{List, map}
use Rattle.lnet_edge.specs.Circuits.{EquationValue, CircuitValue}
use Rattle.lnet_edge.specs.declared.circuit.Equation.{Equation}
use Rattle.lnet_edge.specs.declared.circuit.InputPort.{InputPort}
use Rattle.lnet_edge.specs.declared.circuit.OutputPort.{OutputPort}

-- an equation as contracts see it
abbrev pub equation_view : Equation → EquationValue
equation_view e = record { target = e.target.0; rule = e.rule; operands = e.operands.items }

-- the same of each equation
abbrev pub equation_views : List Equation → List EquationValue
equation_views es = map equation_view es

-- the circuit of these lists
abbrev pub listed_circuit : List InputPort → List OutputPort → List Equation → CircuitValue
listed_circuit inputs outputs equations = record { inputs = inputs; outputs = outputs; equations = equation_views equations }
