-- Assignments of a network's inputs, and the first one under which a node and a signal differ.
-- Source: exhaustive simulation, where the assignments are counted as the rows of a truth table.
use Rattle.std.specs.Prelude.{◌≡◌, ◌≢◌, ◌<◌, ◌^◌, ℕ, Bool, false, List, length, slice_index_or}
use Rattle.lnet_gates.specs.declared.signal.Signal.{Signal}
use Rattle.lnet_tables.specs.Bits.{is_set}
use Rattle.lnet_model.specs.Networks.{NetworkValue}
use Rattle.lnet_model.specs.Values.{node_value, signal_value}

-- input k has the bit at place k
abbrev pub assignment : List Bool → ℕ → Bool
assignment bits k = slice_index_or bits k false

-- the assignment of a number: input i has bit i
abbrev pub numbered : ℕ → ℕ → Bool
numbered k i = is_set k i

-- a node and a signal have one value under an assignment
abbrev pub AgreeUnder : NetworkValue → ℕ → Signal → (ℕ → Bool) → Type 0
AgreeUnder N n s a = node_value N a n ≡ signal_value N a s

-- k is the least number of an assignment under which a node and a signal differ
pub record DifferFirst (N : NetworkValue) (n : ℕ) (s : Signal) (k : ℕ) : Type 0 where
  pub within : k < 2 ^ length N.inputs
  pub differ : node_value N (numbered k) n ≢ signal_value N (numbered k) s
  pub least : (j : ℕ) → j < k → AgreeUnder N n s (numbered j)
