-- The chains of a store: for each node the fanin slots that name it, each by its place.
use Rattle.std.specs.Prelude.{◌≡◌, ◌↔◌, ◌⊎◌, ℕ, ◌+◌, ◌*◌, ◌<◌, ◌≤◌, List, [], length, Option, None, Some, IsSome, slice_get}
use Rattle.std.specs.Ordering.{nat_cmp}
use Rattle.std.specs.FinMap.{FinMap, get}
use Rattle.lnet_gates.specs.declared.signal.Signal.{Signal}
use Rattle.lnet_gates.specs.Gates.{GateValue}
use Rattle.lnet_model.specs.Networks.{NetworkValue, Entry, entry_at, fanins_of, gate_in}
use Rattle.lnet_model.specs.Along.{In, at_entry, nodes_read}
use Rattle.lnet_model.specs.Fanouts.{references}
use Rattle.lnet_chains.specs.Lists.{ChainsValue, Within, list_of}
use Rattle.lnet_store.specs.Fields.{naming}

-- there is a signal, and it names m
abbrev pub NamesNode : ℕ → Option Signal → Type 0
NamesNode m None = ⊥
NamesNode m (Some s) = s.node.0 ≡ m

-- slot j of the gate at g names m
abbrev pub IsReading : NetworkValue → ℕ → ℕ → ℕ → Type 0
IsReading N m g j = NamesNode m (slice_get (at_entry [] fanins_of (entry_at N g)) j)

-- the place of slot j of the gate at g: a number has six
abbrev pub place : ℕ → ℕ → ℕ
place g j = 6 * g + j

-- the place is that of a slot of the gate at g, with these fanins, which names m
abbrev pub IsSlotOf : ℕ → List Signal → ℕ → ℕ → Type 0
IsSlotOf g ss m p = (j : ℕ) × (p ≡ place g j) × NamesNode m (slice_get ss j)

-- there are six places for each node
abbrev pub HasPlaces : ChainsValue → Type 0
HasPlaces c = c.places ≡ 6 * length c.lists

-- the list of each node holds the places of the slots that name it; with the outputs that do, they are its references
pub record AreLinked (c : ChainsValue) (room : ℕ) (N : NetworkValue) : Type 0 where
  pub places : HasPlaces c
  pub fits : room ≤ length c.lists
  pub named : (m g j : ℕ) → j < 6 → Within (place g j) (list_of c m) ↔ IsReading N m g j
  pub counted : (m : ℕ) → length (list_of c m) + naming m N.outputs ≡ references N m

-- the slots of a gate at n with fanins rs went out of the chains, and those of one with fanins ss came into them
pub record AreRelinked (n : ℕ) (rs ss : List Signal) (old new : ChainsValue) : Type 0 where
  pub between : ChainsValue
  pub taken : (m p : ℕ) → Within p (list_of old m) ↔ (Within p (list_of between m) ⊎ IsSlotOf n rs m p)
  pub gone : (m p : ℕ) → Within p (list_of between m) → IsSlotOf n rs m p → ⊥
  pub fewer : (m : ℕ) → length (list_of between m) + naming m rs ≡ length (list_of old m)
  pub named : (m p : ℕ) → Within p (list_of new m) ↔ (Within p (list_of between m) ⊎ IsSlotOf n ss m p)
  pub more : (m : ℕ) → length (list_of new m) ≡ length (list_of between m) + naming m ss

-- there may be more chains, and what stands in them stays
pub record KeepChains (old new : ChainsValue) : Type 0 where
  pub places : HasPlaces new
  pub same : (m : ℕ) → list_of new m ≡ list_of old m
  pub grows : length old.lists ≤ length new.lists

-- a gate stands at n, whose slots stand in the chains, and there is a chain for it and for each node that the signals read
pub record CanRelink (nodes : FinMap nat_cmp Entry) (n : ℕ) (ss : List Signal) (c : ChainsValue) : Type 0 where
  pub gate : IsSome (gate_in (get nodes n))
  pub arity : (g : GateValue) → gate_in (get nodes n) ≡ Some g → length g.fanins ≤ 6
  pub known : (m : ℕ) → In m (nodes_read ss) → m < length c.lists
  pub within : n < length c.lists
  pub linked : (g : GateValue) → gate_in (get nodes n) ≡ Some g → (m p : ℕ) → IsSlotOf n g.fanins m p → Within p (list_of c m)
  pub absent : (g : GateValue) → gate_in (get nodes n) ≡ Some g → (m j : ℕ) → j < 6 → Within (place n j) (list_of c m) → IsSlotOf n g.fanins m (place n j)
