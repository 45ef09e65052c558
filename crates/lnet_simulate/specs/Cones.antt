-- The search for a cone: the order so far, what is marked, and the path of the search.
use Rattle.std.specs.Prelude.{◌≡◌, ℕ, ◌<◌, List, length, All, AllPairs, Bool, true, false, slice_index_or, Option, None, Some}
use Rattle.lnet_gates.specs.declared.signal.Node.{Node}
use Rattle.lnet_model.specs.Networks.{NetworkValue, entry_at}
use Rattle.lnet_model.specs.Along.{In, fanin_nodes}
use Rattle.lnet_model.specs.Dags.{numbers_of}
use Rattle.lnet_model.specs.Levels.{level}

-- whether number n is marked
abbrev pub marked_at : List Bool → ℕ → Bool
marked_at ms n = slice_index_or ms n false

-- number n stands in the order before place i
abbrev pub IsBefore : List Node → ℕ → ℕ → Type 0
IsBefore order i n = (k : ℕ) × (k < i) × ((d : Node) → slice_index_or order k d ≡ record { 0 = n })

-- number n stands in the order
abbrev pub IsListed : List Node → ℕ → Type 0
IsListed order n = IsBefore order (length order) n

-- what stands in the one order stands in the other
abbrev pub KeepsListed : List Node → List Node → Type 0
KeepsListed old new = (n : ℕ) → IsListed old n → IsListed new n

-- each number of the order is one of the network's, and stands after its fanins
pub record InOrder (N : NetworkValue) (order : List Node) : Type 0 where
  pub below : (i : ℕ) (d : Node) → i < length order → (slice_index_or order i d).0 < numbers_of N
  pub after : (i : ℕ) (d : Node) (m : ℕ) → i < length order → In m (fanin_nodes (entry_at N (slice_index_or order i d).0)) → IsBefore order i m

-- there is a mark for each number, and what is marked stands in the order
pub record IsCone (N : NetworkValue) (ms : List Bool) (order : List Node) : Type 0 where
  pub sized : length ms ≡ numbers_of N
  pub listed : (n : ℕ) → marked_at ms n ≡ true → IsListed order n
  pub ordered : InOrder N order

-- all fanins of n are marked, or a fanin is named that isn't
abbrev pub IsWaiting : NetworkValue → List Bool → ℕ → Option Node → Type 0
IsWaiting N ms n None = (m : ℕ) → In m (fanin_nodes (entry_at N n)) → marked_at ms m ≡ true
IsWaiting N ms n (Some m) = In m.0 (fanin_nodes (entry_at N n)) × (marked_at ms m.0 ≡ false)

-- a number that is still to be visited
abbrev pub IsUnmarked : NetworkValue → List Bool → Node → Type 0
IsUnmarked N ms n = (n.0 < numbers_of N) × (marked_at ms n.0 ≡ false)

-- the path has numbers that are still to be visited, each of a lower level than those before
pub record IsPath (N : NetworkValue) (ms : List Bool) (path : List Node) : Type 0 where
  pub unmarked : All (IsUnmarked N ms) path
  pub falls : AllPairs (λ m n. level N n.0 < level N m.0) path

-- the first number of the path is n; where the path is at its end, n is marked
pub record StartsAt (ms : List Bool) (path : List Node) (n : Node) : Type 0 where
  pub first : 0 < length path → slice_index_or path 0 n ≡ n
  pub settled : length path ≡ 0 → marked_at ms n.0 ≡ true
