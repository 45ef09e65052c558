-- A follower by a cut rule is a cut view.
use Rattle.std.proofs.Common.{◌≡◌, ℕ, ◌≤◌, true, false, List, IsSome, Option, None, Some, refl, sym, ap, subst, ◌∙◌, arith}
use Rattle.std.specs.Prelude.{option_map}
use Rattle.lnet_gates.specs.declared.signal.Signal.{Signal}
use Rattle.lnet_gates.specs.Gates.{GateValue}
use Rattle.lnet_model.specs.Networks.{Entry, IsGate, NetworkValue, entry_at, IsLive}
use Rattle.lnet_model.specs.Levels.{level}
use Rattle.lnet_model.specs.Changes.{was}
use Rattle.lnet_model.specs.Dags.{IsDag}
use Rattle.lnet_model.specs.Cuts.{CutValue, cut_step, cuts}
use Rattle.lnet_model.specs.Answers.{CutList, InStep, from_scratch}
use Rattle.lnet_model.specs.Visits.{visit_bound}
use Rattle.lnet_model.specs.declared.event.Event.{Event}
use Rattle.lnet_model.specs.declared.view_spec.CutRule.{CutRule}
use Rattle.lnet_model.specs.declared.view_spec.ViewSpec.TheVariants.{Cuts}
use Rattle.lnet_views.specs.Follows.{IsFollowing, follow_bound}
use Rattle.lnet_views.specs.Rules.{IsInStep, made, rule_bound}
use Rattle.lnet_cuts.specs.Stored.{first_cuts, equal_lists}
use Rattle.lnet_cuts.specs.Agreeing.{equal_lists_decides}
use Rattle.lnet_cuts.specs.CutViews.{cut_spec, lists_in}
use Rattle.lnet_cuts.proofs.MadeCuts.{IsPlaced, none-some, was-placed, gives, made-cuts}
use Rattle.lnet_cuts.proofs.ChangedCuts.{cut-visits}

-- ---- in step

scratch-cuts : (rule : CutRule) (N : NetworkValue) (n : ℕ) → from_scratch (Cuts rule) N n ≡ CutList (level N n) (cuts N rule.size rule.limit n)
unfolding from_scratch
scratch-cuts rule N n = refl

module _ (rule : CutRule) (kept : ℕ → Option (List CutValue × ℕ)) (N : NetworkValue) (dag : IsDag N) (placed : IsPlaced N) where
  pub cut-in-step : IsInStep equal_lists first_cuts (gives rule.size rule.limit) kept N → InStep (Some (Cuts rule)) (lists_in kept) N
  cut-in-step S = record {
    asked = Cuts rule;
    attached = refl;
    answers = λ n. elim (entry_at N n) as (λ o. (entry_at N n ≡ o) → lists_in kept n ≡ option_map (λ _. from_scratch (Cuts rule) N n) o) [
      | None ↦ λ d. ap (option_map (λ (a : List CutValue × ℕ). CutList a.1 a.0)) (S.dead n d)
      | Some e ↦ λ d.
          let live : IsLive N n = subst IsSome (sym d) refl in
          let a = S.live n live in
          ap (option_map (λ (a : List CutValue × ℕ). CutList a.1 a.0)) a.1
          ∙ ap (λ l. Some (CutList l a.0.0)) a.3
          ∙ ap (λ cs. Some (CutList (level N n) cs)) ((equal_lists_decides _ _).0 a.2 ∙ made-cuts rule.size rule.limit N dag.acyclic dag.closed placed n live)
          ∙ ap (λ x. Some x) (sym (scratch-cuts rule N n))
    ] refl;
  }

  list-same : (l m : ℕ) (cs ds : List CutValue) → Some (CutList l cs) ≡ Some (CutList m ds) → (l ≡ m) × (cs ≡ ds)
  list-same l m cs ds e = (cc, cc)

  kept-live : (o : Option (List CutValue × ℕ)) (n : ℕ) → IsLive N n → option_map (λ (a : List CutValue × ℕ). CutList a.1 a.0) o ≡ Some (CutList (level N n) (cuts N rule.size rule.limit n))
      → (a : List CutValue × ℕ) × (o ≡ Some a) × (equal_lists a.0 (made {V = List CutValue} first_cuts (gives rule.size rule.limit) N n) ≡ true) × (a.1 ≡ level N n)
  kept-live None n live e = none-some (CutList (level N n) (cuts N rule.size rule.limit n)) e
  kept-live (Some a) n live e =
      let s = list-same a.1 (level N n) a.0 (cuts N rule.size rule.limit n) e in
      (a, refl, (equal_lists_decides _ _).1 (s.1 ∙ sym (made-cuts rule.size rule.limit N dag.acyclic dag.closed placed n live)), s.0)

  kept-dead : (o : Option (List CutValue × ℕ)) → option_map (λ (a : List CutValue × ℕ). CutList a.1 a.0) o ≡ None → o ≡ None
  kept-dead None e = refl
  kept-dead (Some a) e = none-some (CutList a.1 a.0) (sym e)

  live-scratch : (o : Option Entry) (n : ℕ) → IsSome o → option_map (λ _. from_scratch (Cuts rule) N n) o ≡ Some (CutList (level N n) (cuts N rule.size rule.limit n))
  live-scratch None n h = let z : false ≡ true = h in cc
  live-scratch (Some e) n h = ap (λ x. Some x) (scratch-cuts rule N n)

  pub cut-follows : InStep (Some (Cuts rule)) (lists_in kept) N → IsInStep equal_lists first_cuts (gives rule.size rule.limit) kept N
  cut-follows S =
      let asked : (n : ℕ) → from_scratch S.asked N n ≡ from_scratch (Cuts rule) N n = λ n. ap (λ s. from_scratch s N n) (some-asked (Cuts rule) S.asked S.attached) in
      record {
        live = λ n live. kept-live (kept n) n live (S.answers n ∙ ap (λ x. option_map (λ _. x) (entry_at N n)) (asked n) ∙ live-scratch (entry_at N n) n live);
        dead = λ n d. kept-dead (kept n) (S.answers n ∙ ap (option_map (λ _. from_scratch S.asked N n)) d);
      }
    where
      some-asked : {A : Type 0} (a b : A) → Some a ≡ Some b → b ≡ a
      some-asked a b e = cc

-- ---- a view and its follower

module _ {R : Type 0} (rule_of : R → CutRule) (kept : ℕ → Option (List CutValue × ℕ)) where
  abbrev first_by : R → ℕ → List CutValue
  first_by r n = first_cuts n

  abbrev gives_by : R → ℕ → GateValue → List (Signal × List CutValue) → List CutValue
  gives_by r n g rs = cut_step (rule_of r).size (rule_of r).limit n (IsGate g) rs

  pub view-in-step : (N : NetworkValue) → IsDag N → IsPlaced N → (f : Option R) (rule : Option CutRule) → rule ≡ option_map rule_of f
      → IsFollowing equal_lists first_by gives_by f kept N → InStep (cut_spec rule) (lists_in kept) N
  view-in-step N dag placed f rule same F =
      subst (λ o. InStep (cut_spec o) (lists_in kept) N) (sym (same ∙ ap (option_map rule_of) F.attached)) (cut-in-step (rule_of F.asked) kept N dag placed F.answers)

  pub view-follows : (N : NetworkValue) → IsDag N → IsPlaced N → (f : Option R) (rule : Option CutRule) → rule ≡ option_map rule_of f
      → InStep (cut_spec rule) (lists_in kept) N → IsFollowing equal_lists first_by gives_by f kept N
  view-follows N dag placed None rule same S = none-some S.asked (sym (ap cut_spec same) ∙ S.attached)
  view-follows N dag placed (Some r) rule same S = record {
    asked = r;
    attached = refl;
    answers = cut-follows (rule_of r) kept N dag placed (subst (λ o. InStep (cut_spec o) (lists_in kept) N) same S);
  }

  pub view-visits : (e : Event) (N : NetworkValue) → IsDag (was e N) → IsDag N → IsPlaced N → (f : Option R) (rule : Option CutRule) → rule ≡ option_map rule_of f
      → follow_bound equal_lists first_by gives_by e N f ≤ visit_bound e N (cut_spec rule)
  view-visits e N old new placed None rule same = omega arith
  view-visits e N old new placed (Some r) rule same =
      subst (λ o. rule_bound equal_lists first_cuts (gives (rule_of r).size (rule_of r).limit) e N ≤ visit_bound e N (cut_spec o)) (sym same)
      (cut-visits (rule_of r) e N old new (was-placed e N placed) placed)
