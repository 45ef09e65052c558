-- The engine's count is within the bound of each kind of view.
use Rattle.std.proofs.Common.{◌≡◌, ℕ, ◌≤◌, Bool, true, false, not, eqb, List, map, Option, None, Some, refl, sym, ap, subst, ◌∙◌, inl, inr, arith}
use Rattle.std.specs.Prelude.{◌&&◌, ◌||◌, is_some}
use Rattle.std.specs.FinMap.{keys}
use Rattle.std.proofs.lemmas.Bool.Decides.{eqb_tells}
use Rattle.lnet_gates.specs.declared.signal.Signal.{Signal}
use Rattle.lnet_gates.specs.Gates.{GateValue}
use Rattle.lnet_gates.specs.declared.signal.Node.{Node}
use Rattle.lnet_model.specs.declared.event.Event.{Event}
use Rattle.lnet_model.specs.declared.event.Event.TheVariants.{Modified}
use Rattle.lnet_model.specs.declared.view_spec.ViewSpec.TheVariants.{Depth}
use Rattle.lnet_model.specs.Networks.{Entry, IsGate, NetworkValue, entry_at, fanins_of}
use Rattle.lnet_model.specs.Along.{at_entry, over, Acyclic}
use Rattle.lnet_model.specs.Levels.{level}
use Rattle.lnet_model.specs.Changes.{with_entry, was}
use Rattle.lnet_model.specs.Visits.{fanouts_in, reads_of, visit_bound}
use Rattle.lnet_views.specs.Repair.{IsLawful, pair_step, pair_eq}
use Rattle.lnet_views.specs.Rules.{rule_step, made, is_other, rule_bound}
use Rattle.lnet_views.specs.Keeping.{scratch}
use Rattle.lnet_model.proofs.Over.{over-once}
use Rattle.lnet_model.proofs.Changes.{with_entry-here, with_entry-apart}
use Rattle.lnet_views.proofs.Pair.{both, eqb-same, eqb-is, pair-lawful, pair-over}
use Rattle.lnet_views.proofs.Count.{fanouts-grow}

pub bounds-grow : (N : NetworkValue) (d e : ℕ → Bool) → ((x : ℕ) → d x ≡ true → e x ≡ true) → reads_of N d ≤ reads_of N e
unfolding reads_of fanouts_in
bounds-grow N d e h = let k = fanouts-grow N d e (keys N.nodes) h in omega arith

or-nots : (b c : Bool) → (not b || not c) ≡ false → (b ≡ true) × (c ≡ true)
or-nots true true e = (refl, refl)
or-nots true false e = let z : true ≡ false = e in cc
or-nots false c e = let z : true ≡ false = e in cc

and-or-not : (a b c : Bool) → c ≡ true → (a && (b || not c)) ≡ true → (a && b) ≡ true
and-or-not true true c t e = refl
and-or-not true false c t e = let z : false ≡ true = sym (ap not t) ∙ e in cc
and-or-not false b c t e = e

-- every view may read once
pub reads-positive : (N : NetworkValue) (d : ℕ → Bool) → 1 ≤ reads_of N d
unfolding reads_of
reads-positive N d = omega arith

pub rule-positive : {V : Type 0} (eq : V → V → Bool) (first : ℕ → V) (gives : ℕ → GateValue → List (Signal × V) → V) (e : Event) (N : NetworkValue) → 1 ≤ rule_bound eq first gives e N
unfolding rule_bound
rule-positive eq first gives e N = reads-positive N (is_other eq first gives e N)

module _ {V : Type 0} (eq : V → V → Bool) (first : ℕ → V) (gives : ℕ → GateValue → List (Signal × V) → V) (law : IsLawful eq (rule_step first gives)) (N : NetworkValue) (n : ℕ) (g : GateValue) (cm : Acyclic (with_entry N n (IsGate g))) (cn : Acyclic N) where
  M : NetworkValue
  M = with_entry N n (IsGate g)

  pub dead-same : (P : NetworkValue) → Acyclic P → (x : ℕ) → entry_at P x ≡ None → scratch first gives P x ≡ (first 0, 0)
  dead-same P acyclic x dead = over-once P (pair_step (rule_step first gives)) (first 0, 0) acyclic x ∙ ap (at_entry (first 0, 0) (λ e. pair_step (rule_step first gives) x e (map {B = Signal × (V × ℕ)} (λ s. (s, over P (pair_step (rule_step first gives)) (first 0, 0) s.node.0)) (fanins_of e)))) dead

  none-of : (o : Option Entry) → is_some o ≡ false → o ≡ None
  none-of None e = refl
  none-of (Some x) e = let z : true ≡ false = e in cc

  was-live : (x : ℕ) → not (pair_eq eq (scratch first gives N x) (scratch first gives (with_entry N n (IsGate g)) x)) ≡ true → is_some (entry_at (with_entry N n (IsGate g)) x) ≡ true
  was-live x d = elim (is_some (entry_at (with_entry N n (IsGate g)) x)) as (λ b. (is_some (entry_at (with_entry N n (IsGate g)) x) ≡ b) → b ≡ true) [
    | true ↦ λ e. refl
    | false ↦ λ e. (let dead : entry_at (with_entry N n (IsGate g)) x ≡ None = none-of _ e in elim (eqb_tells x n) as (λ _. false ≡ true) [
      | inl p ↦ (let z : true ≡ false = ap is_some (sym (ap (entry_at (with_entry N n (IsGate g))) p.1 ∙ with_entry-here N n (IsGate g))) ∙ e in cc)
      | inr p ↦ (let there = sym (with_entry-apart N n (IsGate g) x p.1) ∙ dead in
          let same = dead-same N cn x there ∙ sym (dead-same (with_entry N n (IsGate g)) cm x dead) in
          let z : false ≡ true = sym (ap not (subst (λ w. pair_eq eq (scratch first gives N x) w ≡ true) same ((pair-lawful eq (rule_step first gives) law).same (scratch first gives N x)))) ∙ d in cc)
    ])
  ] refl

  differs-other : (x : ℕ) → not (pair_eq eq (scratch first gives N x) (scratch first gives (with_entry N n (IsGate g)) x)) ≡ true → (not (eqb (level (with_entry N n (IsGate g)) x) (level N x)) || not (eq (made first gives (with_entry N n (IsGate g)) x) (made first gives N x))) ≡ true
  differs-other x d = elim (not (eqb (level (with_entry N n (IsGate g)) x) (level N x)) || not (eq (made first gives (with_entry N n (IsGate g)) x) (made first gives N x))) as (λ b. ((not (eqb (level (with_entry N n (IsGate g)) x) (level N x)) || not (eq (made first gives (with_entry N n (IsGate g)) x) (made first gives N x))) ≡ b) → b ≡ true) [
    | true ↦ λ e. refl
    | false ↦ λ e. (let p = or-nots _ _ e in
        let both-same : pair_eq eq (made first gives N x, level N x) (made first gives (with_entry N n (IsGate g)) x, level (with_entry N n (IsGate g)) x) ≡ true = both _ _ (law.turned _ _ p.1) (eqb-same _ _ (sym (eqb-is _ _ p.0))) in
        let same : pair_eq eq (scratch first gives N x) (scratch first gives (with_entry N n (IsGate g)) x) ≡ true = (λ i. pair_eq eq (pair-over N (rule_step first gives) (first 0) cn x i) (pair-over (with_entry N n (IsGate g)) (rule_step first gives) (first 0) cm x i)) ∙ both-same in
        let z : false ≡ true = sym (ap not same) ∙ d in cc)
  ] refl

  pub repair-bound : (m : Node) → m.0 ≡ n → reads_of N (λ x. not (pair_eq eq (scratch first gives N x) (scratch first gives (with_entry N n (IsGate g)) x))) ≤ rule_bound eq first gives (Modified m g) N
  unfolding rule_bound
  repair-bound m at = bounds-grow N _ _ (λ x d. both _ _ (subst (λ z. is_some (entry_at (with_entry N z (IsGate g)) x) ≡ true) (sym at) (was-live x d)) (subst (λ z. (not (eqb (level (with_entry N z (IsGate g)) x) (level N x)) || not (eq (made first gives (with_entry N z (IsGate g)) x) (made first gives N x))) ≡ true) (sym at) (differs-other x d)))

-- where all values are the same, the bound is the depth view's
pub depth-bound : {V : Type 0} (eq : V → V → Bool) → ((a b : V) → eq a b ≡ true) → (first : ℕ → V) (gives : ℕ → GateValue → List (Signal × V) → V) (e : Event) (N : NetworkValue) → rule_bound eq first gives e N ≤ visit_bound e N (Some Depth)
unfolding rule_bound visit_bound
depth-bound eq all first gives e N = bounds-grow N _ _ (λ x d. and-or-not (is_some (entry_at (was e N) x)) (not (eqb (level (was e N) x) (level N x))) (eq (made first gives (was e N) x) (made first gives N x)) (all _ _) d)
