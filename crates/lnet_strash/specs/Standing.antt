-- A finite map from keys to nodes, as contracts see it: what stands at each number.
use Rattle.std.specs.Prelude.{◌≡◌, ℕ, ◌+◌, Bool, List, [], ◌∷◌, Option, None, Some, if◌then◌else◌, length, slice_index_or}
use Rattle.lnet_gates.specs.declared.signal.Node.{Node}
use Rattle.lnet_gates.specs.Gates.{KeyValue}
use Rattle.lnet_strash.specs.Keys.{is_key}

-- for each number below the room the key and the phase under which its node stands, if it stands under one
abbrev pub Standing : Type 0
Standing = List (Option (KeyValue × Bool))

-- the numbers for whose nodes there is memory
abbrev pub room : Standing → ℕ
room t = length t

-- the key and the phase under which node n stands
abbrev pub at : Standing → ℕ → Option (KeyValue × Bool)
at t n = slice_index_or t n None

-- the node that stands under the key, and its phase, where the first of t has the number `first`
abbrev pub entry_from : ℕ → Standing → KeyValue → Option (Node × Bool)
entry_from first [] k = None
entry_from first (None ∷ t) k = entry_from (first + 1) t k
entry_from first (Some e ∷ t) k = if is_key e.0 k then Some (record { 0 = first }, e.1) else entry_from (first + 1) t k

-- the node that stands under the key, and its phase
unfoldable pub entry : Standing → KeyValue → Option (Node × Bool)
entry t k = entry_from 0 t k

-- no two nodes stand under one key
pub record KeysDiffer (t : Standing) : Type 0 where
  pub one : (m n : ℕ) (k : KeyValue) (p q : Bool) → at t m ≡ Some (k, p) → at t n ≡ Some (k, q) → m ≡ n
