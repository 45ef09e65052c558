-- A change of outputs leaves what stands where, and so what views keep and what room there is.
use Rattle.std.proofs.Common.{arith, ◌≡◌, ◌≤◌, ℕ, List, IsSome, Option, None, Some, IfSome, Result, Ok, Err, OnOk, OnErr, option_map, slice_index_or, refl, sym, ap, subst, ◌∙◌, Global}
use Rattle.lnet_gates.specs.declared.gate.Kind.{Kind}
use Rattle.lnet_gates.specs.declared.signal.Signal.{Signal}
use Rattle.lnet_model.specs.Networks.{NetworkValue, entry_at, gate_in, live_count}
use Rattle.lnet_model.specs.Along.{over}
use Rattle.lnet_model.specs.Fanouts.{fan}
use Rattle.lnet_model.specs.Answers.{Answer, from_scratch}
use Rattle.lnet_model.specs.declared.view_spec.ViewSpec.{ViewSpec}
use Rattle.lnet_model.specs.declared.view_spec.ViewSpec.TheVariants.{Depth, Fanout, Cuts}
use Rattle.lnet_store.specs.StoreValues.{StoreValue, with_new_output, with_output}
use Rattle.lnet_hashed.specs.declared.hashed.Hashed.{Hashed}
use Rattle.lnet_hashed.specs.Strashed.{IsStrashed, of_kind}
use Rattle.lnet_hashed.specs.Rooms.{HasRoom}
use Rattle.std.specs.declared.dyn_box.DynBox.{DynBox}
use Rattle.lnet_hashed.specs.declared.watch.Watch.{Watch}
use Rattle.lnet_hashed.specs.Views.{EachSlot, Fits}
use Rattle.lnet_hashed.specs.Watches.{AreFit}
use Rattle.lnet_hashed.proofs.Indexing.{indexed-same}
use Rattle.lnet_hashed.proofs.Strashing.{strashed-same}

-- N with other outputs
abbrev pub with_outputs : NetworkValue → List Signal → NetworkValue
with_outputs N outputs = record N { outputs = outputs }

scratch-outputs : (spec : ViewSpec) (N : NetworkValue) (outputs : List Signal) (n : ℕ) → from_scratch spec (with_outputs N outputs) n ≡ from_scratch spec N n
unfolding from_scratch over entry_at live_count fan
scratch-outputs Depth N outputs n = refl
scratch-outputs Fanout N outputs n = refl
scratch-outputs (Cuts rule) N outputs n = refl

entry-outputs : (N : NetworkValue) (outputs : List Signal) (n : ℕ) → entry_at (with_outputs N outputs) n ≡ entry_at N n
unfolding entry_at
entry-outputs N outputs n = refl

module _ {B : Type 0} (spec_of : B → Option ViewSpec) (kept : B → ℕ → Option Answer) (room : B → ℕ) (N : NetworkValue) (outputs : List Signal) (numbers : ℕ) (slots : List (Option B)) where
  fits-outputs : EachSlot (Fits spec_of kept room N numbers) slots → EachSlot (Fits spec_of kept room (with_outputs N outputs) numbers) slots
  fits-outputs h k = go (slice_index_or slots k None) (h k)
    where
      go : (slot : Option B) → IfSome slot (Fits spec_of kept room N numbers) → IfSome slot (Fits spec_of kept room (with_outputs N outputs) numbers)
      go None f = f
      go (Some b) f = record {
        in_step = record {
          asked = f.in_step.asked;
          attached = f.in_step.attached;
          answers =
              λ n. f.in_step.answers n ∙ ap (λ x. option_map (λ _. x) (entry_at N n)) (sym (scratch-outputs f.in_step.asked N outputs n))
              ∙ ap (option_map (λ _. from_scratch f.in_step.asked (with_outputs N outputs) n)) (sym (entry-outputs N outputs n));
        };
        room_enough = f.room_enough;
      }

pub fit-outputs :
    {X : Type 0} {F : X → Type 0} {spec_of : DynBox X Global F → Option ViewSpec} {kept : DynBox X Global F → ℕ → Option Answer} {room : DynBox X Global F → ℕ} (N : NetworkValue)
    (outputs : List Signal) (numbers : ℕ) {w : Watch X F} → AreFit spec_of kept room N numbers w → AreFit spec_of kept room (with_outputs N outputs) numbers w
fit-outputs {spec_of} {kept} {room} N outputs numbers {w} h = record { each = fits-outputs spec_of kept room N outputs numbers w.views.items h.each; counted = h.counted }

-- the outputs of N after an output is added, and after one is set
pub new-output-is : (N : NetworkValue) (s : Signal) → with_new_output N s ≡ with_outputs N (with_new_output N s).outputs
unfolding with_new_output
new-output-is N s = refl

pub output-is : (N : NetworkValue) (k : ℕ) (s : Signal) → with_output N k s ≡ with_outputs N (with_output N k s).outputs
unfolding with_output
output-is N k s = refl

-- the same in a network seen as one of a kind
pub new-output-kind : (kind : Kind) (N : NetworkValue) (s : Signal) → of_kind kind (with_new_output N s) ≡ with_new_output (of_kind kind N) s
unfolding with_new_output
new-output-kind kind N s = refl

pub output-kind : (kind : Kind) (N : NetworkValue) (k : ℕ) (s : Signal) → of_kind kind (with_output N k s) ≡ with_output (of_kind kind N) k s
unfolding with_output
output-kind kind N k s = refl

-- the network M is N with other outputs, or N itself
abbrev pub IsOutputsOf : NetworkValue → NetworkValue → Type 0
IsOutputsOf N M = M ≡ with_outputs N M.outputs

pub either-outputs : (N M : NetworkValue) (s : Signal) (S : Type 0) {T E : Type 0} (r : Result T E) → OnOk r (M ≡ with_new_output N s) → OnErr r ((M ≡ N) × S) → IsOutputsOf N M
either-outputs N M s S (Ok k) is same = is ∙ new-output-is N s ∙ ap (λ (X : NetworkValue). with_outputs N X.outputs) (sym is)
either-outputs N M s S (Err e) is same = same.0 ∙ ap (λ (X : NetworkValue). with_outputs N X.outputs) (sym same.0)

pub set-outputs : (N M : NetworkValue) (k : ℕ) (s : Signal) → M ≡ with_output N k s → IsOutputsOf N M
set-outputs N M k s is = is ∙ output-is N k s ∙ ap (λ (X : NetworkValue). with_outputs N X.outputs) (sym is)

pub strashed-outputs : (kind : Kind) (N M : NetworkValue) → IsOutputsOf N M → IsStrashed kind N → IsStrashed kind M
strashed-outputs kind N M is = strashed-same kind M N (ap (λ (X : NetworkValue). X.nodes) is)

count-outputs : (N : NetworkValue) (outputs : List Signal) → live_count (with_outputs N outputs) ≡ live_count N
unfolding live_count
count-outputs N outputs = refl

pub room-outputs : (h : Hashed) (s : StoreValue) → IsOutputsOf h.store.network s.network → h.store.spare ≤ s.spare → HasRoom h → HasRoom (record h { store = s })
room-outputs h s is more old =
    let count : live_count s.network ≡ live_count h.store.network = ap live_count is ∙ count-outputs h.store.network s.network.outputs in
    let stored = old.stored in
    let same : (n : ℕ) → entry_at s.network n ≡ entry_at h.store.network n = λ n. ap (λ (X : NetworkValue). entry_at X n) is ∙ entry-outputs h.store.network s.network.outputs n in
    record {
      below = λ n live. old.below n (subst IsSome (same n) live);
      stored = omega arith;
      limit = old.limit;
      noting = old.noting;
      blank = old.blank;
      indexed = indexed-same h.store.network s.network h.keys h.room (λ n. ap gate_in (same n)) old.indexed;
      clean = old.clean;
    }
