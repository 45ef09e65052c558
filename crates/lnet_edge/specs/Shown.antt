-- The names of a circuit's ports, and what a text shows.
use Rattle.std.specs.Prelude.{◌≡◌, ℕ, Bool, List, map, Option}
use Rattle.lnet_edge.specs.declared.circuit.InputPort.{InputPort}
use Rattle.lnet_edge.specs.declared.circuit.OutputPort.{OutputPort}
use Rattle.lnet_edge.specs.Circuits.{CircuitValue}
use Rattle.lnet_edge.specs.Values.{circuit_outputs}

abbrev pub input_names : List InputPort → List (Option (List ℕ))
input_names ports = map (λ (p : InputPort). p.name) ports

abbrev pub output_names : List OutputPort → List (Option (List ℕ))
output_names ports = map (λ (p : OutputPort). p.name) ports

-- a circuit is meant whose ports have these names in order, and whose outputs have these values under each assignment of its inputs
pub record Shows (Means : CircuitValue → Type 0) (inputs outputs : List (Option (List ℕ))) (values : (ℕ → Bool) → List Bool) : Type 0 where
  pub circuit : CircuitValue
  pub means : Means circuit
  pub shown : (a : ℕ → Bool) → circuit_outputs circuit a ≡ values a
  pub inputs_named : input_names circuit.inputs ≡ inputs
  pub outputs_named : output_names circuit.outputs ≡ outputs
