-- Boxed views in slots, and how they stay in step.
use Rattle.std.specs.Prelude.{◌≡◌, ℕ, ◌<◌, ◌≤◌, List, Option, length, IfSome, IsSome, Some, None, slice_index_or}
use Rattle.lnet_model.specs.Networks.{NetworkValue}
use Rattle.lnet_model.specs.Answers.{Answer, InStep}
use Rattle.lnet_model.specs.declared.view_spec.ViewSpec.{ViewSpec}

-- what stands in each slot that isn't empty
abbrev pub EachSlot : {B : Type 0} → (B → Type 0) → List (Option B) → Type 0
EachSlot P slots = (k : ℕ) → IfSome (slice_index_or slots k None) P

-- the view is in step with a network, and has memory for so many numbers; `B` is the type of a view, and the functions are
-- what contracts see of it
pub record Fits {B : Type 0} (spec_of : B → Option ViewSpec) (kept : B → ℕ → Option Answer) (room : B → ℕ) (N : NetworkValue) (numbers : ℕ) (view : B) : Type 0 where
  pub in_step : InStep (spec_of view) (kept view) N
  pub room_enough : numbers ≤ room view

-- a view has the kind and spec that it had, and no less room
pub record Kept {B K : Type 0} (kind_of : B → K) (spec_of : B → Option ViewSpec) (room : B → ℕ) (old new : B) : Type 0 where
  pub kind : kind_of new ≡ kind_of old
  pub spec : spec_of new ≡ spec_of old
  pub room_grows : room old ≤ room new

-- a slot that is empty stays so
abbrev pub SlotKept : {B : Type 0} → (B → B → Type 0) → Option B → Option B → Type 0
SlotKept R None None = Unit {0}
SlotKept R None (Some b) = ⊥
SlotKept R (Some a) None = ⊥
SlotKept R (Some a) (Some b) = R a b

pub record SlotsKept {B : Type 0} (R : B → B → Type 0) (old new : List (Option B)) : Type 0 where
  pub len : length new ≡ length old
  pub each : (k : ℕ) → SlotKept R (slice_index_or old k None) (slice_index_or new k None)

-- the view that stands in a slot has this kind and spec
pub record StandsAs {B K : Type 0} (kind_of : B → K) (spec_of : B → Option ViewSpec) (kind : K) (spec : ViewSpec) (view : B) : Type 0 where
  pub of_kind : kind_of view ≡ kind
  pub of_spec : spec_of view ≡ Some spec

-- `id` is the least number of an empty slot
pub record IsLeastEmpty {B : Type 0} (slots : List (Option B)) (id : ℕ) : Type 0 where
  pub free : slice_index_or slots id None ≡ None
  pub least : (k : ℕ) → k < id → IsSome (slice_index_or slots k None)

-- only the slot `id` differs
abbrev pub OthersSame : {B : Type 0} → List (Option B) → List (Option B) → ℕ → Type 0
OthersSame old new id = (k : ℕ) → (k ≡ id → ⊥) → slice_index_or new k None ≡ slice_index_or old k None

-- `new` is the view `old`, detached: of its kind, without an answer, and with no less room
pub record IsDetachedFrom {B K : Type 0} (kind_of : B → K) (spec_of : B → Option ViewSpec) (kept : B → ℕ → Option Answer) (room : B → ℕ) (old new : B) : Type 0 where
  pub kind : kind_of new ≡ kind_of old
  pub detached : spec_of new ≡ None
  pub no_answer : (n : ℕ) → kept new n ≡ None
  pub room_grows : room old ≤ room new
