-- What is kept between the views of a session and those of its network.
use Rattle.std.specs.Prelude.{◌≡◌, ◌≢◌, ℕ, List, [], ◌∷◌, map, Option, None, IsSomeAnd, slice_index_or}
use Rattle.std.specs.List.{AllByRecursion}
use Rattle.std.proofs.Common.{Global}
use Rattle.std.specs.declared.dyn_box.DynBox.{DynBox}
use Rattle.lnet_model.specs.Answers.{Answer, kind_for}
use Rattle.lnet_model.specs.declared.view_spec.ViewKind.{ViewKind}
use Rattle.lnet_model.specs.declared.view_spec.ViewSpec.{ViewSpec}
use Rattle.lnet_hashed.specs.Views.{StandsAs}
use Rattle.lnet_hashed.specs.Watches.{AreFit}
use Rattle.lnet_network.specs.declared.viewing.ViewId.{ViewId}
use Rattle.lnet_any.specs.declared.any.AnyNet.{AnyNet}
use Rattle.lnet_any.specs.AnyNets.{core_in, network_in, views_in, watch_in}
use Rattle.lnet_subscriptions.specs.declared.roll.Subscriptions.{Subscriptions}
use Rattle.lnet_subscriptions.specs.Rolls.{Roll}

-- the id is none of these
abbrev pub IsApart : ℕ → List ViewId → Type 0
IsApart n [] = Unit {0}
IsApart n (id ∷ ids) = (n ≢ id.0) × IsApart n ids

-- each live view stands in the slot of its id with its kind and spec, and no two have one id
abbrev pub Stand : {B : Type 0} → (B → ViewKind) → (B → Option ViewSpec) → List (Option B) → List (ℕ × ViewSpec) → List ViewId → Type 0
Stand kind_of spec_of slots [] [] = Unit {0}
Stand kind_of spec_of slots (p ∷ ps) (id ∷ ids) = IsSomeAnd (slice_index_or slots id.0 None) (StandsAs kind_of spec_of (kind_for p.1) p.1) × IsApart id.0 ids × Stand kind_of spec_of slots ps ids
Stand kind_of spec_of slots [] (id ∷ ids) = ⊥
Stand kind_of spec_of slots (p ∷ ps) [] = ⊥

-- each view on the shelf is detached
abbrev pub AreDetached : {B : Type 0} → (B → Option ViewSpec) → List B → Type 0
AreDetached spec_of shelf = AllByRecursion (λ b. spec_of b ≡ None) shelf

-- the views of a session as contracts see them
abbrev pub roll_of : {X : Type 0} {F : X → Type 0} → (DynBox X Global F → ViewKind) → Subscriptions X F → Roll
roll_of kind_of s = record { live = s.live.items; next = s.next; shelf = map kind_of s.shelf.items }

-- the live views stand in the network's slots, those on the shelf are detached, and there are fewer than 2 ^ 32 of them
pub record Follow {X : Type 0} {F : X → Type 0} (kind_of : DynBox X Global F → ViewKind) (spec_of : DynBox X Global F → Option ViewSpec) (net : AnyNet X F) (s : Subscriptions X F) : Type 0 where
  pub stand : Stand kind_of spec_of (views_in net) s.live.items s.ids.items
  pub detached : AreDetached spec_of s.shelf.items

-- no view is live, and those on the shelf are detached
pub record Rest {X : Type 0} {F : X → Type 0} (spec_of : DynBox X Global F → Option ViewSpec) (s : Subscriptions X F) : Type 0 where
  pub none : s.live.items ≡ []
  pub no_ids : s.ids.items ≡ []
  pub detached : AreDetached spec_of s.shelf.items

-- each view of the network is in step with it, and has the memory that the network has
abbrev pub InStepWith : {X : Type 0} {F : X → Type 0} → (DynBox X Global F → Option ViewSpec) → (DynBox X Global F → ℕ → Option Answer) → (DynBox X Global F → ℕ) → AnyNet X F → Type 0
InStepWith spec_of kept room net = AreFit spec_of kept room (network_in net) (core_in net).room (watch_in net)
