-- What the slots of a store hold: the nodes by number, and how the numbers are counted.
use Rattle.std.specs.Prelude.{◌≡◌, ℕ, ◌+◌, ◌<◌, ◌≤◌, Bool, true, false, List, map, length, refl, IsSome, Option, None, Some}
use Rattle.std.specs.Coded.{Coded, code_by, coded×, coded_ℕ}
use Rattle.std.specs.Ordering.{nat_cmp}
use Rattle.std.specs.FinMap as maps
use Rattle.std.specs.FinMap.{FinMap, get, len}
use Rattle.lnet_model.specs.Networks.{Entry, Constant, Input, IsGate}
use Rattle.lnet_model.specs.Code.{entry_code}
use Rattle.lnet_model.specs.Dags.{NUMBERS}
use Rattle.lnet_model.specs.Slots.{nodes_of}
use Rattle.lnet_store.specs.declared.slots.Slot.{Slot}
use Rattle.lnet_store.specs.declared.slots.Slot.TheVariants as slot

-- what stands at each number, and for how many numbers from 0 there are slots
pub record Numbered : Type 0 where
  pub nodes : FinMap nat_cmp Entry
  pub room : ℕ

abbrev pub numbered_code : Coded Numbered
numbered_code = code_by (FinMap nat_cmp Entry × ℕ) (coded× (maps.code coded_ℕ entry_code) coded_ℕ) (λ s. (s.nodes, s.room)) (λ p. record { nodes = p.0; room = p.1 }) (λ _. refl)

-- what a slot holds
abbrev pub entry_of : Slot → Entry
entry_of slot.Constant = Constant
entry_of (slot.Input k) = Input k
entry_of (slot.Gate g) = IsGate g

abbrev pub entry_in : Option Slot → Option Entry
entry_in None = None
entry_in (Some s) = Some (entry_of s)

-- what the slots hold
unfoldable pub held : List (Option Slot) → FinMap nat_cmp Entry
held slots = nodes_of (map entry_in slots)

-- whether a slot is empty
abbrev pub is_empty : Option Slot → Bool
is_empty None = true
is_empty (Some s) = false

-- how many numbers are live, how many there are up to the greatest live one, and which are free
pub record IsCounted (slots : List (Option Slot)) (live numbers : ℕ) (free : List Bool) : Type 0 where
  pub counted : live ≡ len (held slots)
  pub below : (n : ℕ) → IsSome (get (held slots) n) → n < numbers
  pub top : (n : ℕ) → n + 1 ≡ numbers → IsSome (get (held slots) n)
  pub frees : free ≡ map is_empty slots
  pub fits : live ≤ length slots
  pub within : length slots ≤ NUMBERS

-- each live number has a slot, and there are no more slots than a network can have numbers
pub record IsFitting (s : Numbered) : Type 0 where
  pub within : (n : ℕ) → IsSome (get s.nodes n) → n < s.room
  pub few : len s.nodes ≤ s.room
  pub limit : s.room ≤ NUMBERS
