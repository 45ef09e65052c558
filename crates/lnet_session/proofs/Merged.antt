-- What a merge leaves of a session, and the words of values.
use Rattle.std.proofs.Common.{◌≡◌, ℕ, zero, suc, ◌<◌, get_or, Bool, true, false, List, [], ◌∷◌, length, Option, Some, None, Result, Ok, Err, Global, refl, sym, ap, subst, ◌∙◌, arith}
use Rattle.std.specs.Prelude.{IfOk, IsSomeAnd, slice_index_or}
use Rattle.std.specs.List.{flat_map}
use Rattle.std.specs.declared.dyn_box.DynBox.{DynBox}
use Rattle.lnet_gates.specs.declared.signal.Signal.{Signal}
use Rattle.lnet_model.specs.declared.view_spec.ViewKind.{ViewKind}
use Rattle.lnet_model.specs.declared.view_spec.ViewSpec.{ViewSpec}
use Rattle.lnet_store.specs.declared.view.View.{Ghosts}
use Rattle.lnet_hashed.specs.Views.{Kept, SlotKept, SlotsKept, StandsAs}
use Rattle.lnet_network.specs.declared.viewing.ViewId.{ViewId}
use Rattle.lnet_any.specs.declared.any.AnyNet.{AnyNet}
use Rattle.lnet_any.specs.AnyNets.{network_in, views_in}
use Rattle.lnet_subscriptions.specs.Kept.{Follow, InStepWith, Stand}
use Rattle.lnet_replies.specs.declared.reply.Reply.{Reply}
use Rattle.lnet_replies.specs.Texts.{bit_text, bits_word}
use Rattle.lnet_session.specs.declared.session.Place.{Place}
use Rattle.lnet_session.specs.declared.session.Session.{Session}
use Rattle.lnet_session.specs.declared.session.Stop.{Stop}
use Rattle.lnet_build.specs.Sound.{IsSound}
use Rattle.lnet_session.specs.Merging.{MergesIn, bit_named}
use Rattle.lnet_session.specs.Effects.{Merges}
use Rattle.lnet_session.specs.States.{Held}
use Rattle.lnet_session.specs.Sessions.{FitNames, IsGood, IsGoodPlace, held_in, kept_in, kind_in, room_in, spec_in, state_of}

-- ---- words of values

texts-length : (bs : List Bool) → length (flat_map bit_text bs) ≡ length bs
texts-length [] = refl
texts-length (true ∷ bs) = ap suc (texts-length bs)
texts-length (false ∷ bs) = ap suc (texts-length bs)

pub word-length : (bs : List Bool) → 0 < length bs → length (bits_word bs) ≡ length bs
word-length [] some = absurd (omega arith)
word-length (true ∷ bs) some = ap suc (texts-length bs)
word-length (false ∷ bs) some = ap suc (texts-length bs)

-- each character of a word of values tells one
texts-told : (bs : List Bool) (i d : ℕ) → i < length bs → None ≡ bit_named (get_or (flat_map bit_text bs) i d) → ⊥
texts-told [] i d lt none = omega arith
texts-told (true ∷ bs) zero d lt none = absurd cc
texts-told (false ∷ bs) zero d lt none = absurd cc
texts-told (true ∷ bs) (suc i) d lt none = texts-told bs i d (omega arith) none
texts-told (false ∷ bs) (suc i) d lt none = texts-told bs i d (omega arith) none

pub word-told : (bs : List Bool) (word : List ℕ) (i d : ℕ) → 0 < length bs → i < length bs → word ≡ bits_word bs → None ≡ bit_named (get_or word i d) → ⊥
word-told [] word i d some lt is none = absurd (omega arith)
word-told (b ∷ bs) word i d some lt is none = texts-told (b ∷ bs) i d lt (subst (λ (w : List ℕ). None ≡ bit_named (get_or w i d)) is none)

-- ---- views

module _ {B : Type 0} (kind_of : B → ViewKind) (spec_of : B → Option ViewSpec) (room : B → ℕ) where
  slot-kept : (kind : ViewKind) (spec : ViewSpec) (a b : Option B) → SlotKept (Kept kind_of spec_of room) a b → IsSomeAnd a (StandsAs kind_of spec_of kind spec) → IsSomeAnd b (StandsAs kind_of spec_of kind spec)
  slot-kept kind spec None None kept h = h
  slot-kept kind spec None (Some b) kept h = absurd kept
  slot-kept kind spec (Some a) None kept h = absurd kept
  slot-kept kind spec (Some a) (Some b) kept h = record { of_kind = kept.kind ∙ h.of_kind; of_spec = kept.spec ∙ h.of_spec }

  stand-kept : (old new : List (Option B)) (ps : List (ℕ × ViewSpec)) (ids : List ViewId) → SlotsKept (Kept kind_of spec_of room) old new → Stand kind_of spec_of old ps ids → Stand kind_of spec_of new ps ids
  stand-kept old new [] [] kept h = tt
  stand-kept old new [] (id ∷ ids) kept h = h
  stand-kept old new (p ∷ ps) [] kept h = h
  stand-kept old new (p ∷ ps) (id ∷ ids) kept h =
      (slot-kept _ p.1 (slice_index_or old id.0 None) (slice_index_or new id.0 None) (kept.each id.0) h.0, h.1, stand-kept old new ps ids kept h.2)

-- ---- sessions

module _ {X : Type 0} {F : X → Type 0} (ghosts : (b : DynBox X Global F) → Ghosts (F b.vtable)) (s : Session X F) (q : Option (Place X F)) (p : Place X F) (n : AnyNet X F) (is : s.place ≡ Some p) (after : q ≡ Some (record { network = n; names = p.names })) where
  pub merged-held : (r : Result Reply Stop) (o : ℕ) (by : Signal) → IfOk r (λ answer. MergesIn (network_in p.network) o by answer (network_in n)) → IfOk r (λ answer. Merges (state_of ghosts s) (state_of ghosts s).held o by answer (state_of ghosts (record { place = q; views = s.views })))
  merged-held (Err e) o by m = tt
  merged-held (Ok answer) o by m =
      subst (λ (h : Option Held). Merges (state_of ghosts s) h o by answer (state_of ghosts (record { place = q; views = s.views }))) (sym (ap held_in is)) (network_in n, m, ap held_in after, refl)

  pub merged-good : IsGood ghosts s → (IsSound (network_in p.network) → IsSound (network_in n)) → length (network_in n).inputs ≡ length (network_in p.network).inputs → length (network_in n).outputs ≡ length (network_in p.network).outputs → InStepWith (spec_in ghosts) (kept_in ghosts) (room_in ghosts) n → SlotsKept (Kept (kind_in ghosts) (spec_in ghosts) (room_in ghosts)) (views_in p.network) (views_in n) → IsGood ghosts (record { place = q; views = s.views })
  merged-good good sound inputs outputs in_step kept =
      let old = subst (IsGoodPlace ghosts s.views) is good in
      let fit : FitNames (network_in n) p.names = record { inputs = old.1.inputs ∙ sym inputs; outputs = old.1.outputs ∙ sym outputs } in
      let follow : Follow (kind_in ghosts) (spec_in ghosts) n s.views = record {
        stand = stand-kept (kind_in ghosts) (spec_in ghosts) (room_in ghosts) (views_in p.network) (views_in n) s.views.live.items s.views.ids.items kept old.3.stand;
        detached = old.3.detached;
      } in
      subst (IsGoodPlace ghosts s.views) (sym after) (sound old.0, fit, in_step, follow)
