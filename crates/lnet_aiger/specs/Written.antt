-- The circuit that a text is of, and when bytes mean a circuit that shows the same.
use Rattle.std.specs.Prelude.{ℕ, ◌*◌, ◌/◌, List, map, All, IfSome, Option}
use Rattle.lnet_edge.specs.declared.circuit.InputPort.{InputPort}
use Rattle.lnet_edge.specs.declared.circuit.OutputPort.{OutputPort}
use Rattle.lnet_edge.specs.Circuits.{CircuitValue}
use Rattle.lnet_edge.specs.Names.{IsName}
use Rattle.lnet_edge.specs.Values.{circuit_outputs}
use Rattle.lnet_aiger.specs.LineRules.{ref_of, equation_of}
use Rattle.lnet_aiger.specs.Texts.{literal_of, gate_of}
use Rattle.lnet_edge.specs.Shown.{input_names, output_names, Shows}
use Rattle.lnet_aiger.specs.Grammar.{Means}

abbrev pub written_input : (ℕ → ℕ) → InputPort → InputPort
written_input variable p = record { wire = record { 0 = (2 * variable p.wire.0) / 2 }; name = p.name }

abbrev pub written_output : (ℕ → ℕ) → OutputPort → OutputPort
written_output variable p = record { source = ref_of (literal_of variable p.source); name = p.name }

-- the circuit with each wire's variable for the wire, and of each gate's operands the greater first
abbrev pub written_by : (ℕ → ℕ) → CircuitValue → CircuitValue
written_by variable c = record { inputs = map (written_input variable) c.inputs; outputs = map (written_output variable) c.outputs; equations = map (λ e. equation_of (gate_of variable e)) c.equations }

-- each port that has a name has one that a symbol can give
abbrev pub HasNames : List (Option (List ℕ)) → Type 0
HasNames names = All (λ (name : Option (List ℕ)). IfSome name IsName) names

-- the bytes mean a circuit with the same names of ports in order, and the same outputs under each assignment of the inputs
abbrev pub MeansSame : List ℕ → CircuitValue → Type 0
MeansSame bytes c = Shows (Means bytes) (input_names c.inputs) (output_names c.outputs) (circuit_outputs c)
