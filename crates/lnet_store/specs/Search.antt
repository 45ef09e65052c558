-- The nodes that a search along fanins has come to.
use Rattle.std.specs.Prelude.{◌≡◌, ℕ, ◌<◌, ◌≤◌, ◌⊎◌, Bool, true, false, List, length, slice_index, slice_index_or}
use Rattle.lnet_model.specs.Networks.{Lookup}
use Rattle.lnet_model.specs.Along.{In, IsWalk, end_of, fanin_nodes}
use Rattle.lnet_model.proofs.Map.{Apart}

-- a walk from n ends at o
abbrev pub Comes : Lookup → ℕ → ℕ → Type 0
Comes g n o = (ns : List ℕ) × IsWalk g n ns × (end_of n ns ≡ o)

-- the numbers of the queue are marked, each stands there once, and no other is marked
pub record AreMarked (marks : List Bool) (queue : List ℕ) : Type 0 where
  pub marked : (m : ℕ) → In m queue → slice_index_or marks m false ≡ true
  pub listed : (m : ℕ) → slice_index_or marks m false ≡ true → In m queue
  pub apart : Apart queue

-- numbers come to the end of a queue: all that are added are in it then, and nothing else is new
pub record Enters (old new added : List ℕ) : Type 0 where
  pub grows : length old ≤ length new
  pub kept : (i : ℕ) → i < length old → slice_index new i ≡ slice_index old i
  pub old_in : (m : ℕ) → In m old → In m new
  pub added_in : (m : ℕ) → In m added → In m new
  pub from : (m : ℕ) → In m new → In m old ⊎ In m added

-- distinct numbers of the queue, or of those that are to be added, are no more than so many
abbrev pub HasPlaces : List ℕ → List ℕ → ℕ → Type 0
HasPlaces queue added places = (ns : List ℕ) → Apart ns → ((m : ℕ) → In m ns → In m queue ⊎ In m added) → length ns ≤ places

-- a search from a node: it has come to the nodes of the queue, and to all fanins of those before the head
pub record IsUnderway (g : Lookup) (from : ℕ) (queue : List ℕ) (head : ℕ) : Type 0 where
  pub reached : (m : ℕ) → In m queue → Comes g from m
  pub start : In from queue
  pub done : (i m : ℕ) → i < head → In m (fanin_nodes (g (slice_index queue i))) → In m queue
  pub within : head ≤ length queue
