-- A network seen as one of a kind: what is placed, laid and made, and what views keep, is the same.
use Rattle.std.proofs.Common.{◌≡◌, ℕ, Bool, List, [], ◌∷◌, ◌++◌, length, IsSome, Option, None, Some, IfSome}
use Rattle.std.proofs.Common.{Result, Ok, Err, IfOk, OnErr, option_map, slice_index_or, refl, sym, ap, subst, ◌∙◌, Global}
use Rattle.lnet_tables.specs.declared.step.Step.{Step}
use Rattle.lnet_tables.specs.Recipes.{RecipeValue}
use Rattle.lnet_gates.specs.declared.gate.Kind.{Kind}
use Rattle.lnet_gates.specs.declared.gate.Op.{Op}
use Rattle.lnet_gates.specs.declared.normal.Normal.{Normal}
use Rattle.lnet_gates.specs.declared.normal.Normal.TheVariants.{Is, Gate}
use Rattle.lnet_gates.specs.declared.planning.Plan.{Plan}
use Rattle.lnet_gates.specs.declared.planning.Plan.TheVariants.{Native, Steps}
use Rattle.lnet_gates.specs.declared.signal.Signal.{Signal}
use Rattle.lnet_gates.specs.declared.signal.Node.{Node}
use Rattle.lnet_gates.specs.Gates.{GateValue, KeyValue}
use Rattle.lnet_gates.specs.Operands.{constant}
use Rattle.lnet_gates.specs.Natives.{FitsWord}
use Rattle.lnet_gates.specs.Plans.{Takes, plan_of}
use Rattle.lnet_gates.specs.Forms.{form_of}
use Rattle.lnet_model.specs.Networks.{NetworkValue, entry_at, live_count}
use Rattle.lnet_model.specs.Along.{over}
use Rattle.lnet_model.specs.Changes.{with_entry, AreLive}
use Rattle.lnet_model.specs.Fanouts.{fan}
use Rattle.lnet_model.specs.Answers.{Answer, from_scratch}
use Rattle.lnet_model.specs.declared.view_spec.ViewSpec.{ViewSpec}
use Rattle.lnet_model.specs.declared.view_spec.ViewSpec.TheVariants.{Depth, Fanout, Cuts}
use Rattle.lnet_hashed.specs.Strashed.{IsStrashed, of_kind, found, least_free, Placed, newly_placed, placed, placed_key, placed_form}
use Rattle.lnet_hashed.specs.Laid.{Laid, laid_steps, laid, by_plan, made, step_gate, signal_at}
use Rattle.std.specs.declared.dyn_box.DynBox.{DynBox}
use Rattle.lnet_model.specs.declared.view_spec.ViewKind.{ViewKind}
use Rattle.lnet_hashed.specs.declared.watch.Watch.{Watch}
use Rattle.lnet_hashed.specs.Views.{EachSlot, Fits}
use Rattle.lnet_hashed.specs.Watches.{AreFit, AreTold}
use Rattle.lnet_store.specs.StoreValues.{with_input}
use Rattle.lnet_hashed.specs.Swept.{IsSwept}
use Rattle.lnet_hashed.proofs.LaidValues.{strashed-made}
use Rattle.lnet_hashed.proofs.Strashing.{strashed-fewer, strashed-with_input}

-- what is placed, in a network seen so
abbrev pub kinded : Kind → Placed → Placed
kinded kind p = record { network = of_kind kind p.network; signal = p.signal }

pub entry-kind : (kind : Kind) (N : NetworkValue) (n : ℕ) → entry_at (of_kind kind N) n ≡ entry_at N n
unfolding entry_at
entry-kind kind N n = refl

pub count-kind : (kind : Kind) (N : NetworkValue) → live_count (of_kind kind N) ≡ live_count N
unfolding live_count
count-kind kind N = refl

found-kind : (kind : Kind) (N : NetworkValue) (k : KeyValue) → found (of_kind kind N) k ≡ found N k
unfolding found
found-kind kind N k = refl

newly-kind : (kind : Kind) (N : NetworkValue) (k : KeyValue) (phase : Bool) → newly_placed (of_kind kind N) k phase ≡ kinded kind (newly_placed N k phase)
unfolding with_entry least_free
newly-kind kind N k phase = refl

key-kind : (kind : Kind) (N : NetworkValue) (k : KeyValue) (phase : Bool) (o : Option Signal) → placed_key (of_kind kind N) k phase o ≡ kinded kind (placed_key N k phase o)
key-kind kind N k phase None = newly-kind kind N k phase
key-kind kind N k phase (Some s) = refl

form-kind : (kind : Kind) (N : NetworkValue) (f : Normal) → placed_form (of_kind kind N) f ≡ kinded kind (placed_form N f)
form-kind kind N (Is s) = refl
form-kind kind N (Gate k phase) = ap (placed_key (of_kind kind N) k phase) (found-kind kind N k) ∙ key-kind kind N k phase (found N k)

pub placed-kind : (kind : Kind) (N : NetworkValue) (g : GateValue) → placed kind (of_kind kind N) g ≡ kinded kind (placed kind N g)
unfolding placed
placed-kind kind N g = form-kind kind N (form_of kind g)

abbrev laid-in : Kind → Laid → Laid
laid-in kind l = record { network = of_kind kind l.network; places = l.places }

steps-kind :
    (kind : Kind) (ss : List Step) (N : NetworkValue) (places : List Signal) → laid_steps kind ss (of_kind kind N) places ≡ laid-in kind (laid_steps kind ss N places)
unfolding laid_steps
steps-kind kind [] N places = refl
steps-kind kind (s ∷ ss) N places =
    let p : Placed = placed kind N (step_gate places s) in
    ap (λ (q : Placed). laid_steps kind ss q.network (places ++ q.signal ∷ [])) (placed-kind kind N (step_gate places s))
    ∙ steps-kind kind ss p.network (places ++ p.signal ∷ [])

laid-kind : (kind : Kind) (N : NetworkValue) (r : RecipeValue) (leaves : List Signal) → laid kind (of_kind kind N) r leaves ≡ kinded kind (laid kind N r leaves)
laid-kind kind N r leaves = ap (λ (l : Laid). record { network = l.network; signal = signal_at l.places r.root }) (steps-kind kind r.steps N (constant Bool.false ∷ leaves))

plan-kind :
    (kind : Kind) (N : NetworkValue) (op : Op) (operands : List Signal) (p : Plan) →
    by_plan kind (of_kind kind N) op operands p ≡ kinded kind (by_plan kind N op operands p)
plan-kind kind N op operands Native = placed-kind kind N (record { op = op; phase = Bool.false; fanins = operands })
plan-kind kind N op operands (Steps r) = laid-kind kind N r operands

pub made-kind :
    (kind : Kind) (N : NetworkValue) (op : Op) (operands : List Signal) → made kind (of_kind kind N) op operands ≡ kinded kind (made kind N op operands)
unfolding made
made-kind kind N op operands = plan-kind kind N op operands (plan_of kind op (length operands))

pub live-kind : (kind : Kind) (N : NetworkValue) (ns : List ℕ) → AreLive (of_kind kind N) ns → AreLive N ns
live-kind kind N ns live m i = subst IsSome (entry-kind kind N m) (live m i)

-- ---- what views keep

scratch-kind : (spec : ViewSpec) (kind : Kind) (N : NetworkValue) (n : ℕ) → from_scratch spec (of_kind kind N) n ≡ from_scratch spec N n
unfolding from_scratch over entry_at live_count fan
scratch-kind Depth kind N n = refl
scratch-kind Fanout kind N n = refl
scratch-kind (Cuts rule) kind N n = refl

module _ {B : Type 0} (spec_of : B → Option ViewSpec) (kept : B → ℕ → Option Answer) (room : B → ℕ) (kind : Kind) (N : NetworkValue) (numbers : ℕ) (slots : List (Option B)) where
  fits-kind : EachSlot (Fits spec_of kept room N numbers) slots → EachSlot (Fits spec_of kept room (of_kind kind N) numbers) slots
  fits-kind h k = go (slice_index_or slots k None) (h k)
    where
      go : (slot : Option B) → IfSome slot (Fits spec_of kept room N numbers) → IfSome slot (Fits spec_of kept room (of_kind kind N) numbers)
      go None f = f
      go (Some b) f = record {
        in_step = record {
          asked = f.in_step.asked;
          attached = f.in_step.attached;
          answers =
              λ n. f.in_step.answers n ∙ ap (λ x. option_map (λ _. x) (entry_at N n)) (sym (scratch-kind f.in_step.asked kind N n))
              ∙ ap (option_map (λ _. from_scratch f.in_step.asked (of_kind kind N) n)) (sym (entry-kind kind N n));
        };
        room_enough = f.room_enough;
      }

  kind-fits : EachSlot (Fits spec_of kept room (of_kind kind N) numbers) slots → EachSlot (Fits spec_of kept room N numbers) slots
  kind-fits h k = go (slice_index_or slots k None) (h k)
    where
      go : (slot : Option B) → IfSome slot (Fits spec_of kept room (of_kind kind N) numbers) → IfSome slot (Fits spec_of kept room N numbers)
      go None f = f
      go (Some b) f = record {
        in_step = record {
          asked = f.in_step.asked;
          attached = f.in_step.attached;
          answers =
              λ n. f.in_step.answers n ∙ ap (λ x. option_map (λ _. x) (entry_at (of_kind kind N) n)) (scratch-kind f.in_step.asked kind N n)
              ∙ ap (option_map (λ _. from_scratch f.in_step.asked N n)) (entry-kind kind N n);
        };
        room_enough = f.room_enough;
      }

module _ {X : Type 0} {F : X → Type 0} {spec_of : DynBox X Global F → Option ViewSpec} {kept : DynBox X Global F → ℕ → Option Answer} {room : DynBox X Global F → ℕ} (kind : Kind) (N : NetworkValue) (numbers : ℕ) where
  pub fit-kind : {w : Watch X F} → AreFit spec_of kept room N numbers w → AreFit spec_of kept room (of_kind kind N) numbers w
  fit-kind {w} h = record { each = fits-kind spec_of kept room kind N numbers w.views.items h.each; counted = h.counted }

  pub kind-fit : {w : Watch X F} → AreFit spec_of kept room (of_kind kind N) numbers w → AreFit spec_of kept room N numbers w
  kind-fit {w} h = record { each = kind-fits spec_of kept room kind N numbers w.views.items h.each; counted = h.counted }

  pub told-kind : {kind_of : DynBox X Global F → ViewKind} {v w : Watch X F} → AreTold kind_of spec_of kept room N numbers v w → AreTold kind_of spec_of kept room (of_kind kind N) numbers v w
  told-kind h = record { fit = fit-kind h.fit; same = h.same }

-- ---- after an operation

pub strashed-after :
    (kind : Kind) (N M : NetworkValue) (op : Op) (operands : List Signal) → Takes op (length operands) → FitsWord op →
    {E : Type 0} (r : Result Signal E) → IfOk r (λ s. made kind N op operands ≡ record { network = M; signal = s }) → OnErr r (M ≡ N) → IsStrashed kind N → IsStrashed kind M
strashed-after kind N M op operands takes fits (Ok s) is same h = subst (λ (p : Placed). IsStrashed kind p.network) is (strashed-made kind N op operands takes fits h)
strashed-after kind N M op operands takes fits (Err e) is same h = subst (IsStrashed kind) (sym same) h

-- ---- after a sweep

pub swept-kind : (kind : Kind) (N M : NetworkValue) → IsSwept N M → IsSwept (of_kind kind N) (of_kind kind M)
unfolding entry_at
swept-kind kind N M h = record {
  trimmed = record { kind = refl; inputs = h.trimmed.inputs; outputs = h.trimmed.outputs; reached = h.trimmed.reached; others = h.trimmed.others; left = h.trimmed.left };
  gone = h.gone;
}

pub swept-strashed : (kind : Kind) (N M : NetworkValue) → IsSwept N M → IsStrashed kind N → IsStrashed kind M
swept-strashed kind N M h = strashed-fewer kind M N (λ n g e. sym (h.trimmed.left n (subst IsSome (sym e) refl)) ∙ e)

-- ---- after an input

pub input-kind : (kind : Kind) (N : NetworkValue) (n : ℕ) → of_kind kind (with_input N n) ≡ with_input (of_kind kind N) n
unfolding with_input
input-kind kind N n = refl

pub free-kind : (kind : Kind) (N : NetworkValue) → least_free (of_kind kind N) ≡ least_free N
unfolding least_free
free-kind kind N = refl

pub strashed-entered :
    (kind : Kind) (N M : NetworkValue) (S : Type 0) {E : Type 0} (r : Result Node E) → IfOk r (λ n. M ≡ with_input N n.0) → OnErr r ((M ≡ N) × S) →
    IsStrashed kind N → IsStrashed kind M
strashed-entered kind N M S (Ok n) is same h = subst (IsStrashed kind) (sym is) (strashed-with_input kind N n.0 h)
strashed-entered kind N M S (Err e) is same h = subst (IsStrashed kind) (sym same.0) h
