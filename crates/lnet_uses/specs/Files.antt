-- What a file's bytes mean of a network.
use Rattle.std.specs.Prelude.{◌≡◌, ℕ, Bool}
use Rattle.lnet_edge.specs.Circuits.{CircuitValue}
use Rattle.lnet_edge.specs.Values.{circuit_outputs}
use Rattle.lnet_model.specs.Networks.{NetworkValue}
use Rattle.lnet_model.specs.Values.{network_outputs}

-- a circuit is meant that has the network's outputs under each assignment of the inputs
pub record MeansNetwork (Means : CircuitValue → Type 0) (N : NetworkValue) : Type 0 where
  pub circuit : CircuitValue
  pub means : Means circuit
  pub outputs : (a : ℕ → Bool) → circuit_outputs circuit a ≡ network_outputs N a
