-- Networks of the same nodes: what views keep doesn't depend on the inputs and outputs.
use Rattle.std.proofs.Common.{◌≡◌, ℕ, ◌+◌, ◌<◌, List, [], ◌∷◌, ◌++◌, length, IsSome, Option, None, Some, IfSome, option_map, slice_index_or, Global, refl, sym, ap, subst, ◌∙◌, inl, inr}
use Rattle.std.specs.declared.dyn_box.DynBox.{DynBox}
use Rattle.std.proofs.lemmas.Bool.Decides.{eqb_tells}
use Rattle.lnet_model.specs.Networks.{NetworkValue, Input, IsLive, entry_at, gate_in, gate_at, live_count}
use Rattle.lnet_model.specs.Along.{over}
use Rattle.lnet_model.specs.Fanouts.{fan}
use Rattle.lnet_model.specs.Dags.{IsDag, AreBelow}
use Rattle.lnet_model.specs.Changes.{with_entry, IsLeastFree}
use Rattle.lnet_model.proofs.Changes.{with_entry-here, with_entry-apart}
use Rattle.lnet_store.specs.StoreValues.{with_input}
use Rattle.lnet_hashed.proofs.Adding.{added-live, added-below, added-count}
use Rattle.lnet_model.specs.Answers.{Answer, InStep, from_scratch}
use Rattle.lnet_model.specs.declared.view_spec.ViewSpec.{ViewSpec}
use Rattle.lnet_model.specs.declared.view_spec.ViewSpec.TheVariants.{Depth, Fanout, Cuts}
use Rattle.lnet_hashed.specs.declared.watch.Watch.{Watch}
use Rattle.lnet_hashed.specs.Views.{EachSlot, Fits}
use Rattle.lnet_hashed.specs.Watches.{AreFit}

-- N with other inputs
abbrev pub with_inputs : NetworkValue → List ℕ → NetworkValue
with_inputs N inputs = record N { inputs = inputs }

scratch-same : (spec : ViewSpec) (N : NetworkValue) (inputs : List ℕ) (n : ℕ) → from_scratch spec (with_inputs N inputs) n ≡ from_scratch spec N n
unfolding from_scratch over entry_at live_count fan
scratch-same Depth N inputs n = refl
scratch-same Fanout N inputs n = refl
scratch-same (Cuts rule) N inputs n = refl

entry-same : (N : NetworkValue) (inputs : List ℕ) (n : ℕ) → entry_at (with_inputs N inputs) n ≡ entry_at N n
unfolding entry_at
entry-same N inputs n = refl

pub step-same : (spec : Option ViewSpec) (kept : ℕ → Option Answer) (N : NetworkValue) (inputs : List ℕ) → InStep spec kept N → InStep spec kept (with_inputs N inputs)
step-same spec kept N inputs h = record {
  asked = h.asked;
  attached = h.attached;
  answers =
      λ n. h.answers n ∙ ap (λ x. option_map (λ _. x) (entry_at N n)) (sym (scratch-same h.asked N inputs n))
      ∙ ap (option_map (λ _. from_scratch h.asked (with_inputs N inputs) n)) (sym (entry-same N inputs n));
}

pub dag-same : (N : NetworkValue) (inputs : List ℕ) → IsDag N → IsDag (with_inputs N inputs)
unfolding entry_at
dag-same N inputs h = record { acyclic = h.acyclic; closed = h.closed; arities = h.arities }

-- the slots fit a network with other inputs
fits-same :
    {B : Type 0} (spec_of : B → Option ViewSpec) (kept : B → ℕ → Option Answer) (room : B → ℕ) (N : NetworkValue) (inputs : List ℕ) (numbers : ℕ) (slots : List (Option B)) →
    EachSlot (Fits spec_of kept room N numbers) slots → EachSlot (Fits spec_of kept room (with_inputs N inputs) numbers) slots
fits-same {B} spec_of kept room N inputs numbers slots h k = go (slice_index_or slots k None) (h k)
  where
    go : (slot : Option B) → IfSome slot (Fits spec_of kept room N numbers) → IfSome slot (Fits spec_of kept room (with_inputs N inputs) numbers)
    go None f = f
    go (Some b) f = record { in_step = step-same (spec_of b) (kept b) N inputs f.in_step; room_enough = f.room_enough }

-- so do the views of a network
pub fit-same :
    {X : Type 0} {F : X → Type 0} (spec_of : DynBox X Global F → Option ViewSpec) (kept : DynBox X Global F → ℕ → Option Answer) (room : DynBox X Global F → ℕ) (N : NetworkValue) (inputs : List ℕ)
    (numbers : ℕ) (w : Watch X F) → AreFit spec_of kept room N numbers w → AreFit spec_of kept room (with_inputs N inputs) numbers w
fit-same spec_of kept room N inputs numbers w h = record { each = fits-same spec_of kept room N inputs numbers w.views.items h.each; counted = h.counted }

-- ---- a new input

input-is : (N : NetworkValue) (n : ℕ) → with_input N n ≡ with_inputs (with_entry N n (Input (length N.inputs))) (N.inputs ++ n ∷ [])
unfolding with_input with_entry
input-is N n = refl

count-same : (N : NetworkValue) (inputs : List ℕ) → live_count (with_inputs N inputs) ≡ live_count N
unfolding live_count
count-same N inputs = refl

pub below-same : (N : NetworkValue) (inputs : List ℕ) (r : ℕ) → AreBelow N r → AreBelow (with_inputs N inputs) r
below-same N inputs r below m live = below m (subst IsSome (entry-same N inputs m) live)

pub input-live : (N M : NetworkValue) (n : ℕ) → M ≡ with_input N n → IsLive M n
input-live N M n is =
    let W : NetworkValue = with_entry N n (Input (length N.inputs)) in
    subst (λ X. IsLive X n) (sym (is ∙ input-is N n)) (subst IsSome (sym (entry-same W (N.inputs ++ n ∷ []) n)) (added-live N W n _ refl))

pub input-below : (N M : NetworkValue) (n r : ℕ) → M ≡ with_input N n → IsLeastFree N n → live_count N < r → AreBelow N r → AreBelow M r
input-below N M n r is least more below =
    let W : NetworkValue = with_entry N n (Input (length N.inputs)) in
    subst (λ X. AreBelow X r) (sym (is ∙ input-is N n)) (below-same W (N.inputs ++ n ∷ []) r (added-below N W n r _ refl least more below))

pub input-count : (N M : NetworkValue) (n : ℕ) → M ≡ with_input N n → IsLeastFree N n → live_count M ≡ live_count N + 1
input-count N M n is least =
    let W : NetworkValue = with_entry N n (Input (length N.inputs)) in
    ap live_count (is ∙ input-is N n) ∙ count-same W (N.inputs ++ n ∷ []) ∙ added-count N W n _ refl least

-- an input is no gate
pub input-gates : (N M : NetworkValue) (n : ℕ) → M ≡ with_input N n → entry_at N n ≡ None → (m : ℕ) → gate_at M m ≡ gate_at N m
input-gates N M n is free m =
    let W : NetworkValue = with_entry N n (Input (length N.inputs)) in
    let entries : entry_at M m ≡ entry_at W m = ap (λ X. entry_at X m) (is ∙ input-is N n) ∙ entry-same W (N.inputs ++ n ∷ []) m in
    elim (eqb_tells m n) as (λ _. gate_at M m ≡ gate_at N m) [
      | inl p ↦ ap gate_in (entries ∙ ap (entry_at W) p.1 ∙ with_entry-here N n (Input (length N.inputs))) ∙ sym (ap gate_in (ap (entry_at N) p.1 ∙ free))
      | inr p ↦ ap gate_in (entries ∙ with_entry-apart N n (Input (length N.inputs)) m p.1)
    ]
