-- The views of a network and how often each read it, and what calls that tell them keep.
use Rattle.std.specs.Prelude.{◌≡◌, ℕ, [], length, slice_index_or, IsSomeAnd, Option, None}
use Rattle.std.proofs.Common.{Global}
use Rattle.std.specs.declared.dyn_box.DynBox.{DynBox}
use Rattle.lnet_model.specs.Networks.{NetworkValue}
use Rattle.lnet_model.specs.Answers.{Answer}
use Rattle.lnet_model.specs.declared.view_spec.ViewKind.{ViewKind}
use Rattle.lnet_model.specs.declared.view_spec.ViewSpec.{ViewSpec}
use Rattle.lnet_store.specs.declared.view.View.{Ghosts}
use Rattle.lnet_hashed.specs.declared.watch.Watch.{Watch}
use Rattle.lnet_hashed.specs.Views.{EachSlot, Fits, Kept, SlotsKept, StandsAs, IsLeastEmpty, OthersSame}

-- no view, and nothing is counted
pub record IsBare {X : Type 0} {F : X → Type 0} (w : Watch X F) : Type 0 where
  pub views : w.views.items ≡ []
  pub visits : w.visits.items ≡ []

-- each view is in step with the network, and has memory for so many numbers; there is a count for each slot
pub record AreFit {X : Type 0} {F : X → Type 0} (spec_of : DynBox X Global F → Option ViewSpec) (kept : DynBox X Global F → ℕ → Option Answer) (room : DynBox X Global F → ℕ) (N : NetworkValue) (numbers : ℕ) (w : Watch X F) : Type 0 where
  pub each : EachSlot (Fits spec_of kept room N numbers) w.views.items
  pub counted : length w.visits.items ≡ length w.views.items

-- and each is the view that it was
pub record AreTold {X : Type 0} {F : X → Type 0} (kind_of : DynBox X Global F → ViewKind) (spec_of : DynBox X Global F → Option ViewSpec) (kept : DynBox X Global F → ℕ → Option Answer) (room : DynBox X Global F → ℕ) (N : NetworkValue) (numbers : ℕ) (old new : Watch X F) : Type 0 where
  pub fit : AreFit spec_of kept room N numbers new
  pub same : SlotsKept (Kept kind_of spec_of room) old.views.items new.views.items

-- a view of the kind and spec took the least empty slot, its number the id, and its count is 0; the other slots and counts are as
-- they were
pub record IsSeated {X : Type 0} {F : X → Type 0} (kind_of : DynBox X Global F → ViewKind) (spec_of : DynBox X Global F → Option ViewSpec) (kind : ViewKind) (spec : ViewSpec) (old new : Watch X F) (place : ℕ) : Type 0 where
  pub id : IsLeastEmpty old.views.items place
  pub stands : IsSomeAnd (slice_index_or new.views.items place None) (StandsAs kind_of spec_of kind spec)
  pub others : OthersSame old.views.items new.views.items place
  pub unread : slice_index_or new.visits.items place 0 ≡ 0
  pub counts : (k : ℕ) → (k ≡ place → ⊥) → slice_index_or new.visits.items k 0 ≡ slice_index_or old.visits.items k 0

-- each slot has the view and the count that it had
pub record IsUnchanged {X : Type 0} {F : X → Type 0} (old new : Watch X F) : Type 0 where
  pub same_views : new.views.items ≡ old.views.items
  pub same_counts : new.visits.items ≡ old.visits.items

-- ---- by what the trait of the views brings

abbrev pub AreFitBy : {X : Type 0} {F : X → Type 0} → ((v : X) → Ghosts (F v)) → NetworkValue → ℕ → Watch X F → Type 0
AreFitBy ghosts N numbers w = AreFit (λ b. (ghosts b.vtable).spec_of b.value) (λ b. (ghosts b.vtable).kept b.value) (λ b. (ghosts b.vtable).room b.value) N numbers w

abbrev pub AreToldBy : {X : Type 0} {F : X → Type 0} → ((v : X) → Ghosts (F v)) → NetworkValue → ℕ → Watch X F → Watch X F → Type 0
AreToldBy ghosts N numbers old new = AreTold (λ b. (ghosts b.vtable).kind_of b.value) (λ b. (ghosts b.vtable).spec_of b.value) (λ b. (ghosts b.vtable).kept b.value) (λ b. (ghosts b.vtable).room b.value) N numbers old new

-- ---- by what a box brings

abbrev pub AreFitIn : {X : Type 0} {F : X → Type 0} → ((b : DynBox X Global F) → Ghosts (F b.vtable)) → NetworkValue → ℕ → Watch X F → Type 0
AreFitIn ghosts N numbers w = AreFit (λ b. (ghosts b).spec_of b.value) (λ b. (ghosts b).kept b.value) (λ b. (ghosts b).room b.value) N numbers w

abbrev pub AreToldIn : {X : Type 0} {F : X → Type 0} → ((b : DynBox X Global F) → Ghosts (F b.vtable)) → NetworkValue → ℕ → Watch X F → Watch X F → Type 0
AreToldIn ghosts N numbers old new = AreTold (λ b. (ghosts b).kind_of b.value) (λ b. (ghosts b).spec_of b.value) (λ b. (ghosts b).kept b.value) (λ b. (ghosts b).room b.value) N numbers old new
