-- What views keep doesn't depend on the outputs.
use Rattle.std.proofs.Common.{◌≡◌, ℕ, List, IsSome, Option, None, Some, IfSome, option_map, slice_index_or, Global, refl, sym, ap, subst, ◌∙◌}
use Rattle.std.specs.declared.dyn_box.DynBox.{DynBox}
use Rattle.lnet_gates.specs.declared.signal.Signal.{Signal}
use Rattle.lnet_model.specs.Networks.{NetworkValue, entry_at, live_count}
use Rattle.lnet_model.specs.Along.{over}
use Rattle.lnet_model.specs.Fanouts.{fan}
use Rattle.lnet_model.specs.Dags.{AreBelow}
use Rattle.lnet_model.specs.Answers.{Answer, InStep, from_scratch}
use Rattle.lnet_model.specs.declared.view_spec.ViewSpec.{ViewSpec}
use Rattle.lnet_model.specs.declared.view_spec.ViewSpec.TheVariants.{Depth, Fanout, Cuts}
use Rattle.lnet_hashed.specs.declared.watch.Watch.{Watch}
use Rattle.lnet_hashed.specs.Views.{EachSlot, Fits}
use Rattle.lnet_hashed.specs.Watches.{AreFit}
use Rattle.lnet_cascade.specs.Redirections.{outputs_redirected}
use Rattle.lnet_cascade.proofs.RedirectedAll.{outputs-entry}

scratch-same : (spec : ViewSpec) (N : NetworkValue) (x : ℕ) (t : Signal) (n : ℕ) → from_scratch spec (outputs_redirected N x t) n ≡ from_scratch spec N n
unfolding from_scratch over entry_at live_count fan outputs_redirected
scratch-same Depth N x t n = refl
scratch-same Fanout N x t n = refl
scratch-same (Cuts rule) N x t n = refl

step-same : (spec : Option ViewSpec) (kept : ℕ → Option Answer) (N : NetworkValue) (x : ℕ) (t : Signal) → InStep spec kept N → InStep spec kept (outputs_redirected N x t)
step-same spec kept N x t h = record {
  asked = h.asked;
  attached = h.attached;
  answers =
      λ n. h.answers n ∙ ap (λ a. option_map (λ _. a) (entry_at N n)) (sym (scratch-same h.asked N x t n))
      ∙ ap (option_map (λ _. from_scratch h.asked (outputs_redirected N x t) n)) (sym (outputs-entry N x t n));
}

-- the slots fit a network with its outputs redirected
fits-outputs :
    {B : Type 0} (spec_of : B → Option ViewSpec) (kept : B → ℕ → Option Answer) (room : B → ℕ) (N : NetworkValue) (x : ℕ) (t : Signal) (numbers : ℕ) (slots : List (Option B)) →
    EachSlot (Fits spec_of kept room N numbers) slots → EachSlot (Fits spec_of kept room (outputs_redirected N x t) numbers) slots
fits-outputs {B} spec_of kept room N x t numbers slots h k = go (slice_index_or slots k None) (h k)
  where
    go : (slot : Option B) → IfSome slot (Fits spec_of kept room N numbers) → IfSome slot (Fits spec_of kept room (outputs_redirected N x t) numbers)
    go None f = f
    go (Some b) f = record { in_step = step-same (spec_of b) (kept b) N x t f.in_step; room_enough = f.room_enough }

-- so do the views of a network
pub fit-outputs :
    {X :
    Type 0} {F : X → Type 0} (spec_of : DynBox X Global F → Option ViewSpec) (kept : DynBox X Global F → ℕ → Option Answer) (room : DynBox X Global F →
    ℕ) (N : NetworkValue) (x : ℕ) (t : Signal) (numbers : ℕ) (w : Watch X F) →
    AreFit spec_of kept room N numbers w → AreFit spec_of kept room (outputs_redirected N x t) numbers w
fit-outputs spec_of kept room N x t numbers w h = record { each = fits-outputs spec_of kept room N x t numbers w.views.items h.each; counted = h.counted }

pub below-outputs : (N : NetworkValue) (x : ℕ) (t : Signal) (room : ℕ) → AreBelow N room → AreBelow (outputs_redirected N x t) room
below-outputs N x t room below m live = below m (subst IsSome (outputs-entry N x t m) live)
