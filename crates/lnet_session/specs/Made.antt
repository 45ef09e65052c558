-- The network that is made of a circuit: how it is built, and what it is like.
use Rattle.std.specs.Prelude.{◌≡◌, ℕ, ◌≤◌, Bool, length}
use Rattle.lnet_gates.specs.declared.gate.Kind.{Kind}
use Rattle.lnet_model.specs.Along.{Acyclic}
use Rattle.lnet_model.specs.Dags.{NUMBERS}
use Rattle.lnet_model.specs.Networks.{NetworkValue, gate_count}
use Rattle.lnet_model.specs.Values.{network_outputs}
use Rattle.lnet_edge.specs.Circuits.{CircuitValue}
use Rattle.lnet_edge.specs.Values.{circuit_outputs}
use Rattle.lnet_replies.specs.declared.reply.Counts.{Counts}
use Rattle.lnet_build.specs.Built.{IsBuilt, numbers_needed}
use Rattle.lnet_build.specs.Sound.{IsSound}

-- N is built of circuit c in the kind: it computes what c computes, from as many inputs, and no moment of the building needs more
-- numbers than there are
pub record IsMadeOf (kind : Kind) (c : CircuitValue) (N : NetworkValue) : Type 0 where
  pub built : IsBuilt kind c N
  pub values : (a : ℕ → Bool) → network_outputs N a ≡ circuit_outputs c a
  pub acyclic : Acyclic N
  pub kind_is : N.kind ≡ kind
  pub sound : IsSound N
  pub inputs : length N.inputs ≡ length c.inputs
  pub outputs : length N.outputs ≡ length c.outputs
  pub fits : numbers_needed kind c ≤ NUMBERS

-- the kind and the counts of a network
abbrev pub counts_of : NetworkValue → Counts
counts_of N = record { kind = N.kind; inputs = length N.inputs; outputs = length N.outputs; gates = gate_count N }
