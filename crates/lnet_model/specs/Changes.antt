-- A network with one number changed, and the network before an event.
use Rattle.std.specs.Prelude.{◌≡◌, ℕ, ◌<◌, List, None, Some}
use Rattle.std.specs.FinMap.{insert, remove}
use Rattle.lnet_gates.specs.Gates.{GateValue}
use Rattle.lnet_model.specs.Networks.{NetworkValue, Entry, IsGate, IsLive, entry_at}
use Rattle.lnet_model.specs.Along.{In}
use Rattle.lnet_model.specs.declared.event.Event.{Event}
use Rattle.lnet_model.specs.declared.event.Event.TheVariants.{Added, Modified, Deleted}

-- N with e at k
unfoldable pub with_entry : NetworkValue → ℕ → Entry → NetworkValue
with_entry N k e = record N { nodes = insert N.nodes k e }

-- N without k
unfoldable pub without : NetworkValue → ℕ → NetworkValue
without N k = record N { nodes = remove N.nodes k }

-- each of the numbers is live
abbrev pub AreLive : NetworkValue → List ℕ → Type 0
AreLive N ns = (m : ℕ) → In m ns → IsLive N m

-- this gate stands at n
abbrev pub GateAt : NetworkValue → ℕ → GateValue → Type 0
GateAt N n g = entry_at N n ≡ Some (IsGate g)

-- some gate stands at n
abbrev pub IsGateAt : NetworkValue → ℕ → Type 0
IsGateAt N n = (g : GateValue) × GateAt N n g

-- n is the least number that isn't live
pub record IsLeastFree (N : NetworkValue) (n : ℕ) : Type 0 where
  pub free : entry_at N n ≡ None
  pub least : (m : ℕ) → m < n → IsLive N m

-- ---- events

-- the network from which the event made N
abbrev pub was : Event → NetworkValue → NetworkValue
was (Added n) N = without N n.0
was (Modified n g) N = with_entry N n.0 (IsGate g)
was (Deleted n g) N = with_entry N n.0 (IsGate g)

-- what an event says of its node, after it: a modified gate differs from what it was
abbrev pub IsEvent : Event → NetworkValue → Type 0
IsEvent (Added n) N = IsLive N n.0
IsEvent (Modified n g) N = IsGateAt N n.0 × (GateAt N n.0 g → ⊥)
IsEvent (Deleted n g) N = entry_at N n.0 ≡ None
