-- What contracts see of a session, and what is kept in one.
use Rattle.std.specs.Prelude.{◌≡◌, ℕ, [], Option, None, Some, length, map}
use Rattle.std.proofs.Common.{Global}
use Rattle.std.specs.declared.dyn_box.DynBox.{DynBox}
use Rattle.lnet_model.specs.Answers.{Answer}
use Rattle.lnet_model.specs.Networks.{NetworkValue}
use Rattle.lnet_model.specs.declared.view_spec.ViewKind.{ViewKind}
use Rattle.lnet_model.specs.declared.view_spec.ViewSpec.{ViewSpec}
use Rattle.lnet_store.specs.declared.view.View.{Ghosts}
use Rattle.lnet_names.specs.NameLists.{NamesValue}
use Rattle.lnet_any.specs.AnyNets.{network_in}
use Rattle.lnet_subscriptions.specs.Kept.{AreDetached, Follow, InStepWith, Rest, roll_of}
use Rattle.lnet_subscriptions.specs.declared.roll.Subscriptions.{Subscriptions}
use Rattle.lnet_session.specs.declared.session.Kit.{Kit}
use Rattle.lnet_session.specs.declared.session.Place.{Place}
use Rattle.lnet_session.specs.declared.session.Session.{Session}
use Rattle.lnet_session.specs.States.{Held, State}
use Rattle.lnet_build.specs.Sound.{IsSound}

-- what is in place, as contracts see it
abbrev pub held_in : {X : Type 0} {F : X → Type 0} → Option (Place X F) → Option Held
held_in None = None
held_in (Some p) = Some (record { network = network_in p.network; names = p.names })

-- what a boxed view says of itself: its kind, its spec, what it keeps, and for how many numbers it has memory
abbrev pub kind_in : {X : Type 0} {F : X → Type 0} → ((b : DynBox X Global F) → Ghosts (F b.vtable)) → DynBox X Global F → ViewKind
kind_in ghosts b = (ghosts b).kind_of b.value

abbrev pub spec_in : {X : Type 0} {F : X → Type 0} → ((b : DynBox X Global F) → Ghosts (F b.vtable)) → DynBox X Global F → Option ViewSpec
spec_in ghosts b = (ghosts b).spec_of b.value

abbrev pub kept_in : {X : Type 0} {F : X → Type 0} → ((b : DynBox X Global F) → Ghosts (F b.vtable)) → DynBox X Global F → ℕ → Option Answer
kept_in ghosts b = (ghosts b).kept b.value

abbrev pub room_in : {X : Type 0} {F : X → Type 0} → ((b : DynBox X Global F) → Ghosts (F b.vtable)) → DynBox X Global F → ℕ
room_in ghosts b = (ghosts b).room b.value

-- the state of a session
abbrev pub state_of : {X : Type 0} {F : X → Type 0} → ((b : DynBox X Global F) → Ghosts (F b.vtable)) → Session X F → State
state_of ghosts s = record { held = held_in s.place; roll = roll_of (kind_in ghosts) s.views }

-- the names are as many as the inputs and outputs
pub record FitNames (N : NetworkValue) (names : NamesValue) : Type 0 where
  pub inputs : length names.inputs ≡ length N.inputs
  pub outputs : length names.outputs ≡ length N.outputs

-- what is kept in place: a sound network with names that fit, each view of which answers as computed from it, and the live views
-- of the session are its views. Where nothing is in place no view is live. The views on the shelf are detached
abbrev pub IsGoodPlace : {X : Type 0} {F : X → Type 0} → ((b : DynBox X Global F) → Ghosts (F b.vtable)) → Subscriptions X F → Option (Place X F) → Type 0
IsGoodPlace ghosts views None = Rest (spec_in ghosts) views
IsGoodPlace ghosts views (Some p) = IsSound (network_in p.network) × FitNames (network_in p.network) p.names × InStepWith (spec_in ghosts) (kept_in ghosts) (room_in ghosts) p.network × Follow (kind_in ghosts) (spec_in ghosts) p.network views

-- the same of a session
abbrev pub IsGood : {X : Type 0} {F : X → Type 0} → ((b : DynBox X Global F) → Ghosts (F b.vtable)) → Session X F → Type 0
IsGood ghosts s = IsGoodPlace ghosts s.views s.place

-- no view of the session is live, and those on the shelf are detached
abbrev pub IsAtRest : {X : Type 0} {F : X → Type 0} → ((b : DynBox X Global F) → Ghosts (F b.vtable)) → Session X F → Type 0
IsAtRest ghosts s = Rest (spec_in ghosts) s.views

-- ---- the same by what the boxes' vtables bring, as clauses have it

abbrev pub state_by : {X : Type 0} {F : X → Type 0} → ((v : X) → Ghosts (F v)) → Session X F → State
state_by ghosts s = state_of (λ b. ghosts b.vtable) s

abbrev pub IsGoodBy : {X : Type 0} {F : X → Type 0} → ((v : X) → Ghosts (F v)) → Session X F → Type 0
IsGoodBy ghosts s = IsGood (λ b. ghosts b.vtable) s

abbrev pub IsAtRestBy : {X : Type 0} {F : X → Type 0} → ((v : X) → Ghosts (F v)) → Session X F → Type 0
IsAtRestBy ghosts s = IsAtRest (λ b. ghosts b.vtable) s

-- ---- the kit of a session

-- its views are detached
abbrev pub AreDetachedBy : {X : Type 0} {F : X → Type 0} → ((v : X) → Ghosts (F v)) → Kit X F → Type 0
AreDetachedBy ghosts kit = AreDetached (spec_in (λ b. ghosts b.vtable)) kit.views.items

-- the state of a session that begins with it: nothing is in place, and its views are on the shelf
abbrev pub first_state_by : {X : Type 0} {F : X → Type 0} → ((v : X) → Ghosts (F v)) → Kit X F → State
first_state_by ghosts kit = record { held = None; roll = record { live = []; next = 1; shelf = map (kind_in (λ b. ghosts b.vtable)) kit.views.items } }
