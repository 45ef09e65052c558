-- Views that are told by one call after another.
use Rattle.std.proofs.Common.{◌≡◌, ℕ, List, [], ◌∷◌, length, Option, None, Some, Global, refl, sym, ap, subst, ◌∙◌, arith}
use Rattle.std.specs.declared.dyn_box.DynBox.{DynBox}
use Rattle.lnet_model.specs.Networks.{NetworkValue}
use Rattle.lnet_model.specs.Answers.{Answer}
use Rattle.lnet_model.specs.declared.view_spec.ViewKind.{ViewKind}
use Rattle.lnet_model.specs.declared.view_spec.ViewSpec.{ViewSpec}
use Rattle.lnet_hashed.specs.declared.watch.Watch.{Watch}
use Rattle.lnet_hashed.specs.Views.{EachSlot, Fits, Kept, SlotKept, SlotsKept}
use Rattle.lnet_hashed.specs.Watches.{AreFit, AreTold, IsBare}

slot-twice :
    {B K : Type 0} (kind_of : B → K) (spec_of : B → Option ViewSpec) (room : B → ℕ) (a b c : Option B) → SlotKept (Kept kind_of spec_of room) a b → SlotKept (Kept kind_of spec_of room) b c →
    SlotKept (Kept kind_of spec_of room) a c
slot-twice kind_of spec_of room None None None h k = tt
slot-twice kind_of spec_of room None None (Some c) h k = absurd k
slot-twice kind_of spec_of room None (Some b) c h k = absurd h
slot-twice kind_of spec_of room (Some a) None c h k = absurd h
slot-twice kind_of spec_of room (Some a) (Some b) None h k = absurd k
slot-twice kind_of spec_of room (Some a) (Some b) (Some c) h k =
    let before = h.room_grows in
    let after = k.room_grows in
    record { kind = k.kind ∙ h.kind; spec = k.spec ∙ h.spec; room_grows = omega arith }

-- views that are kept twice are kept
pub kept-twice :
    {B K : Type 0} {kind_of : B → K} {spec_of : B → Option ViewSpec} {room : B → ℕ} {xs ys zs : List (Option B)} → SlotsKept (Kept kind_of spec_of room) xs ys →
    SlotsKept (Kept kind_of spec_of room) ys zs → SlotsKept (Kept kind_of spec_of room) xs zs
kept-twice {kind_of} {spec_of} {room} h k = record { len = k.len ∙ h.len; each = λ n. slot-twice kind_of spec_of room _ _ _ (h.each n) (k.each n) }

-- views that are told twice are told
pub told_twice :
    {X :
    Type 0} {F : X → Type 0} {kind_of : DynBox X Global F → ViewKind} {spec_of : DynBox X Global F → Option ViewSpec} {kept : DynBox X Global F → ℕ → Option Answer} {room : DynBox X Global F →
    ℕ} {M N : NetworkValue} {m n : ℕ} {a b c : Watch X F} →
    AreTold kind_of spec_of kept room M m a b → AreTold kind_of spec_of kept room N n b c → AreTold kind_of spec_of kept room N n a c
told_twice h k = record { fit = k.fit; same = kept-twice h.same k.same }

itself : {B : Type 0} (kind_of : B → ViewKind) (spec_of : B → Option ViewSpec) (room : B → ℕ) (s : Option B) → SlotKept (Kept kind_of spec_of room) s s
itself kind_of spec_of room None = tt
itself kind_of spec_of room (Some b) = record { kind = refl; spec = refl; room_grows = omega arith }

-- views that are left alone are told
pub told_same :
    {X :
    Type 0} {F : X → Type 0} {kind_of : DynBox X Global F → ViewKind} {spec_of : DynBox X Global F → Option ViewSpec} {kept : DynBox X Global F → ℕ → Option Answer} {room : DynBox X Global F →
    ℕ} {N : NetworkValue} {n : ℕ} {a : Watch X F} →
    AreFit spec_of kept room N n a → AreTold kind_of spec_of kept room N n a a
told_same {kind_of} {spec_of} {kept} {room} h = record { fit = h; same = record { len = refl; each = λ k. itself kind_of spec_of room _ } }

-- ---- without views

-- no view is in step with any network
pub bare_fit :
    {X :
    Type 0} {F : X → Type 0} {spec_of : DynBox X Global F → Option ViewSpec} {kept : DynBox X Global F → ℕ → Option Answer} {room : DynBox X Global F →
    ℕ} {N : NetworkValue} {n : ℕ} {w : Watch X F} →
    IsBare w → AreFit spec_of kept room N n w
bare_fit {spec_of} {kept} {room} {N} {n} h = record {
  each = subst (EachSlot (Fits spec_of kept room N n)) (sym h.views) (λ k. tt);
  counted = ap length h.visits ∙ sym (ap length h.views);
}

nothing : {B : Type 0} (xs : List B) → length xs ≡ 0 → xs ≡ []
nothing [] e = refl
nothing (x ∷ xs) e = absurd (omega arith)

-- and where there is none, there is none after views are told
pub bare_told :
    {X :
    Type 0} {F : X → Type 0} {kind_of : DynBox X Global F → ViewKind} {spec_of : DynBox X Global F → Option ViewSpec} {kept : DynBox X Global F → ℕ → Option Answer} {room : DynBox X Global F →
    ℕ} {N : NetworkValue} {n : ℕ} {v w : Watch X F} →
    AreTold kind_of spec_of kept room N n v w → IsBare v → IsBare w
bare_told {w} h bare =
    let none = h.same.len ∙ ap length bare.views in
    record { views = nothing w.views.items none; visits = nothing w.visits.items (h.fit.counted ∙ none) }
