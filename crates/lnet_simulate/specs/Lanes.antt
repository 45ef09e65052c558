-- Words of 64 lanes: lane j of a node's word is its value under the assignment of lane j.
use Rattle.std.specs.Prelude.{◌≡◌, ℕ, ◌<◌, List, length, All, Bool, slice_index, Some}
use Rattle.lnet_tables.specs.Bits.{is_set}
use Rattle.lnet_gates.specs.declared.signal.Signal.{Signal}
use Rattle.lnet_gates.specs.Gates.{flip}
use Rattle.lnet_model.specs.Networks.{NetworkValue, Input, entry_at}
use Rattle.lnet_model.specs.Along.{In, fanin_nodes}
use Rattle.lnet_model.specs.Values.{node_value}

-- a signal's value in lane j, by the words of the nodes
abbrev pub lane_of : List ℕ → ℕ → Signal → Bool
lane_of ws j s = flip s.complement (is_set (slice_index ws s.node.0) j)

-- the assignment of lane j, by the words of the inputs
abbrev pub lane : List ℕ → ℕ → ℕ → Bool
lane inputs j k = is_set (slice_index inputs k) j

-- each signal's node has a word
abbrev pub AreInside : List ℕ → List Signal → Type 0
AreInside ws ss = All (λ s. s.node.0 < length ws) ss

-- the word of node n has its value in each lane
abbrev pub IsRight : NetworkValue → List ℕ → List ℕ → ℕ → Type 0
IsRight N inputs ws n = (j : ℕ) → j < 64 → is_set (slice_index ws n) j ≡ node_value N (lane inputs j) n

-- the words of the inputs are set
abbrev pub AreSet : NetworkValue → List ℕ → List ℕ → Type 0
AreSet N inputs ws = (n k : ℕ) → entry_at N n ≡ Some (Input k) → IsRight N inputs ws n

-- the words of the fanins of number n have their values
abbrev pub AreRead : NetworkValue → List ℕ → List ℕ → ℕ → Type 0
AreRead N inputs ws n = (m : ℕ) → In m (fanin_nodes (entry_at N n)) → IsRight N inputs ws m

-- w is the word that number n has by the words of its fanins and, for an input, by its own
abbrev pub IsWordOf : NetworkValue → List ℕ → ℕ → ℕ → Type 0
IsWordOf N ws n w = (inputs : List ℕ) → AreSet N inputs ws → AreRead N inputs ws n → (j : ℕ) → j < 64 → is_set w j ≡ node_value N (lane inputs j) n
