-- A follower whose values are all the same is a depth view.
use Rattle.std.proofs.Common.{◌≡◌, ℕ, ◌+◌, ◌≤◌, Bool, true, false, List, IsSome, Option, None, Some, refl, sym, ap, subst, ◌∙◌, arith}
use Rattle.std.specs.Prelude.{option_map}
use Rattle.lnet_gates.specs.declared.signal.Signal.{Signal}
use Rattle.lnet_gates.specs.Gates.{GateValue}
use Rattle.lnet_model.specs.Networks.{Entry, NetworkValue, entry_at}
use Rattle.lnet_model.specs.Levels.{level}
use Rattle.lnet_model.specs.Answers.{Level, InStep, from_scratch, level_in}
use Rattle.lnet_model.specs.Visits.{visit_bound}
use Rattle.lnet_model.specs.declared.event.Event.{Event}
use Rattle.lnet_model.specs.declared.view_spec.ViewSpec.{ViewSpec}
use Rattle.lnet_model.specs.declared.view_spec.ViewSpec.TheVariants.{Depth}
use Rattle.lnet_views.specs.Rules.{made}
use Rattle.lnet_views.specs.Follows.{IsFollowing, follow_bound}
use Rattle.lnet_views.specs.DepthViews.{depth_spec, levels_in}
use Rattle.lnet_views.proofs.Bounds.{depth-bound}
use Rattle.lnet_views.proofs.FollowLemmas.{some-same}

scratch-level : (spec : ViewSpec) → Depth ≡ spec → (N : NetworkValue) (n : ℕ) → from_scratch spec N n ≡ Level (level N n)
unfolding from_scratch
scratch-level spec is N n = ap (λ s. from_scratch s N n) (sym is)

none-some : {A B : Type 0} (a : A) → ◌≡◌ {A = Option A} None (Some a) → B
none-some a e = cc

module _ {R V : Type 0} (eq : V → V → Bool) (all : (a b : V) → eq a b ≡ true) (first_of : R → ℕ → V) (gives : R → ℕ → GateValue → List (Signal × V) → V) (kept : ℕ → Option (V × ℕ)) (N : NetworkValue) where
  pub depth-in-step : (rule : Option R) → IsFollowing eq first_of gives rule kept N → InStep (depth_spec rule) (levels_in kept) N
  depth-in-step rule F = record {
    asked = Depth;
    attached = ap depth_spec F.attached;
    answers = λ n. elim (entry_at N n) as (λ o. (entry_at N n ≡ o) → levels_in kept n ≡ option_map (λ _. from_scratch Depth N n) o) [
      | None ↦ λ d. ap (option_map (λ (a : V × ℕ). Level a.1)) (F.answers.dead n d)
      | Some e ↦ λ d. (let a = F.answers.live n (subst IsSome (sym d) refl) in ap (option_map (λ (a : V × ℕ). Level a.1)) a.1 ∙ ap (λ l. Some (Level l)) a.3 ∙ ap (λ x. Some x) (sym (scratch-level Depth refl N n)))
    ] refl;
  }

  -- what is kept at a live number, and at any other
  kept-live : (o : Option (V × ℕ)) (n : ℕ) → option_map (λ (a : V × ℕ). Level a.1) o ≡ Some (Level (level N n)) → (v : V) → (a : V × ℕ) × (o ≡ Some a) × (eq a.0 v ≡ true) × (a.1 ≡ level N n)
  kept-live None n e v = none-some (Level (level N n)) e
  kept-live (Some a) n e v = (a, refl, all a.0 v, some-same a.1 (level N n) (ap level_in e))

  kept-dead : (o : Option (V × ℕ)) → option_map (λ (a : V × ℕ). Level a.1) o ≡ None → o ≡ None
  kept-dead None e = refl
  kept-dead (Some a) e = none-some (Level a.1) (sym e)

  pub depth-follows : (rule : Option R) → InStep (depth_spec rule) (levels_in kept) N → IsFollowing eq first_of gives rule kept N
  depth-follows None S = none-some S.asked S.attached
  depth-follows (Some r) S = record {
    asked = r;
    attached = refl;
    answers = record {
      live = λ n live. kept-live (kept n) n (S.answers n ∙ live-scratch (entry_at N n) n live) (made (first_of r) (gives r) N n);
      dead = λ n d. kept-dead (kept n) (S.answers n ∙ ap (option_map (λ _. from_scratch S.asked N n)) d);
    };
  }
    where
      live-scratch : (o : Option Entry) (n : ℕ) → IsSome o → option_map (λ _. from_scratch S.asked N n) o ≡ Some (Level (level N n))
      live-scratch None n h = let z : false ≡ true = h in cc
      live-scratch (Some e) n h = ap (λ x. Some x) (scratch-level S.asked (some-same Depth S.asked S.attached) N n)

  pub depth-visits : (rule : Option R) (e : Event) → follow_bound eq first_of gives e N rule ≤ visit_bound e N (depth_spec rule)
  depth-visits None e = omega arith
  depth-visits (Some r) e = depth-bound eq all (first_of r) (gives r) e N

pub within : (a b f v : ℕ) → a ≤ b + f → f ≤ v → a ≤ b + v
within a b f v h k = omega arith
