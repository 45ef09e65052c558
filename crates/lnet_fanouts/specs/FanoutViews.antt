-- What a fanout view keeps, and how the trait of the views sees it.
use Rattle.std.specs.Prelude.{◌≡◌, ◌↔◌, ℕ, ◌<◌, ◌≤◌, Bool, true, false, List, [], map, length, is_some, slice_get, slice_index_or, Option, None, Some}
use Rattle.lnet_gates.specs.declared.signal.Signal.{Signal}
use Rattle.lnet_model.specs.Networks.{Lookup, NetworkValue, fanins_of}
use Rattle.lnet_model.specs.Along.{at_entry}
use Rattle.lnet_model.specs.Answers.{Answer, InStep, Parents}
use Rattle.lnet_model.specs.Changes.{IsEvent, was}
use Rattle.lnet_model.specs.Dags.{AreBelow, IsDag, IsStored, NUMBERS}
use Rattle.lnet_model.specs.declared.event.Event.{Event}
use Rattle.lnet_model.specs.declared.view_spec.ViewSpec.{ViewSpec}
use Rattle.lnet_model.specs.declared.view_spec.ViewSpec.TheVariants.{Fanout}
use Rattle.lnet_chains.specs.Lists.{ChainsValue, Within, list_of}
use Rattle.lnet_store.specs.Cursors.{slot_at}
use Rattle.lnet_store.specs.Linked.{HasPlaces, NamesNode, place}

-- attached for fanouts, or for nothing
abbrev pub fanout_spec : Bool → Option ViewSpec
fanout_spec true = Some Fanout
fanout_spec false = None

-- the pairs of these places, where the node is live
abbrev pub fanout_of : Bool → List ℕ → Option Answer
fanout_of true places = Some (Parents (map slot_at places))
fanout_of false places = None

-- the fanouts that are kept, by number
abbrev pub fanouts_in : ChainsValue → List Bool → ℕ → Option Answer
fanouts_in v live n = fanout_of (slice_index_or live n false) (list_of v n)

-- the fanins of what stands at a number
abbrev pub slots_at : Lookup → ℕ → List Signal
slots_at g n = at_entry [] fanins_of (g n)

-- the place of a slot stands in the list of a node exactly where the slot names the node
abbrev pub AreListed : ChainsValue → Lookup → Type 0
AreListed v g = (m p j : ℕ) → j < 6 → Within (place p j) (list_of v m) ↔ NamesNode m (slice_get (slots_at g p) j)

-- the numbers that are said to be live are those at which something stands
abbrev pub AreLive : List Bool → Lookup → Type 0
AreLive live g = (n : ℕ) → slice_index_or live n false ≡ is_some (g n)

-- a list for each number that there is memory for and that a store can have, and six places for each list
pub record HasSlots (v : ChainsValue) (live : List Bool) : Type 0 where
  pub places : HasPlaces v
  pub fewer : length v.lists ≤ length live
  pub few : length v.lists ≤ NUMBERS
  pub enough : (k : ℕ) → k ≤ length live → k ≤ NUMBERS → k ≤ length v.lists

-- as many lists and places
pub record SameRoom (old new : ChainsValue) : Type 0 where
  pub lists : length new.lists ≡ length old.lists
  pub places : new.places ≡ old.places

-- a view with these lists, in step with the network before the event, and with memory for what is live, is told the event that made N
pub record IsTold (v : ChainsValue) (live : List Bool) (attached : Bool) (N : NetworkValue) (e : Event) : Type 0 where
  pub stored : IsStored N
  pub before : IsDag (was e N)
  pub slots : HasSlots v live
  pub empty : (n : ℕ) → slice_index_or live n false ≡ false → list_of v n ≡ []
  pub step : InStep (fanout_spec attached) (fanouts_in v live) (was e N)
  pub event : IsEvent e N
  pub room : AreBelow N (length live)
  pub room_before : AreBelow (was e N) (length live)
