-- The values of a network's nodes and outputs under an assignment of its inputs.
-- Source: the textbook meaning of a combinational network.
use Rattle.std.specs.Prelude.{ℕ, Bool, false, List, map}
use Rattle.lnet_gates.specs.declared.signal.Signal.{Signal}
use Rattle.lnet_gates.specs.Gates.{flip, apply}
use Rattle.lnet_model.specs.Networks.{Entry, Constant, Input, IsGate, NetworkValue}
use Rattle.lnet_model.specs.Along.{over}

-- false for the constant, the input's bit, and for a gate its operation on its fanins' values
abbrev pub value_step : (ℕ → Bool) → ℕ → Entry → List (Signal × Bool) → Bool
value_step a n Constant rs = false
value_step a n (Input k) rs = a k
value_step a n (IsGate g) rs = apply g.op g.phase (map (λ r. flip r.0.complement r.1) rs)

-- the value of node n, where input k has the value a k
abbrev pub node_value : NetworkValue → (ℕ → Bool) → ℕ → Bool
node_value N a n = over N (value_step a) false n

-- the value of a node as it is read
abbrev pub signal_value : NetworkValue → (ℕ → Bool) → Signal → Bool
signal_value N a s = flip s.complement (node_value N a s.node.0)

-- the values of the outputs
unfoldable pub network_outputs : NetworkValue → (ℕ → Bool) → List Bool
network_outputs N a = map (signal_value N a) N.outputs
