-- The comparison of a node and a signal, block by block.
use Rattle.std.specs.Prelude.{◌≡◌, ◌<◌, ℕ, Bool, List, length}
use Rattle.lnet_tables.specs.Bits.{bit_xor2}
use Rattle.lnet_gates.specs.declared.signal.Signal.{Signal}
use Rattle.lnet_gates.specs.declared.signal.Node.{Node}
use Rattle.lnet_model.specs.Networks.{NetworkValue}
use Rattle.lnet_model.specs.Dags.{numbers_of}
use Rattle.lnet_model.specs.Values.{node_value, signal_value}
use Rattle.lnet_simulate.specs.Assignments.{AgreeUnder, numbered}
use Rattle.lnet_simulate.specs.Cones.{InOrder, IsListed}

-- whether a node and a signal differ under an assignment
abbrev pub differ_under : NetworkValue → ℕ → Signal → (ℕ → Bool) → Bool
differ_under N n s a = bit_xor2 (node_value N a n) (signal_value N a s)

-- they agree under each assignment whose number is below k
abbrev pub AgreeBelow : NetworkValue → ℕ → Signal → ℕ → Type 0
AgreeBelow N n s k = (j : ℕ) → j < k → AgreeUnder N n s (numbered j)

-- there is a word for each input and for each number
pub record HaveSpace (N : NetworkValue) (ins ws : List ℕ) : Type 0 where
  pub inputs : length ins ≡ length N.inputs
  pub words : length ws ≡ numbers_of N

-- the order has the node and the signal's node
pub record HoldsBoth (N : NetworkValue) (order : List Node) (n : ℕ) (s : Signal) : Type 0 where
  pub ordered : InOrder N order
  pub node : IsListed order n
  pub signal : IsListed order s.node.0
