-- The repair as it runs.
use Rattle.std.proofs.Common.{◌≡◌, ◌≢◌, ℕ, ◌+◌, ◌*◌, ◌<◌, ◌≤◌, Bool, true, false, not, eqb, cond, List, length, map, IsSome, Option, None, Some, refl, sym, ap, subst, ◌∙◌, inl, inr, arith, set, get_or-set_same, get_or-set_other, length-set}
use Rattle.std.specs.Prelude.{is_some}
use Rattle.std.specs.FinMap.{keys}
use Rattle.std.specs.Cmp.{IsEquivalence}
use Rattle.std.proofs.lemmas.Bool.Decides.{eqb_tells}
use Rattle.lnet_gates.specs.declared.signal.Signal.{Signal}
use Rattle.lnet_gates.specs.Gates.{GateValue}
use Rattle.lnet_model.specs.Networks.{Entry, Constant, Input, IsGate, NetworkValue, entry_at, fanins_of, gate_in}
use Rattle.lnet_model.specs.Along.{In, fanin_nodes, Acyclic}
use Rattle.lnet_model.specs.Levels.{level}
use Rattle.lnet_model.specs.Fanouts.{fan, IsParent}
use Rattle.lnet_model.specs.Visits.{fanouts, fanouts_in}
use Rattle.lnet_views.specs.Repair.{put, SameBut, IsLawful, IsNext, IsSettled, pair_step, pair_eq}
use Rattle.lnet_views.specs.Rules.{rule_step}
use Rattle.lnet_views.specs.Keeping.{answer, mark, height, IsSound, IsRunning, spread, all_fanouts, IsKept, scratch}
use Rattle.lnet_views.proofs.Pair.{pair-lawful, pair-over, eqb-is, and-right}
use Rattle.lnet_views.proofs.Repair.{repair-start, repair-end, repair-settled, taken-final, put-of, parent-old}
use Rattle.lnet_views.proofs.Count.{differing-grow, differing-more, fanouts-grow, live-key}
use Rattle.lnet_views.proofs.Renewal.{answer-level, gate-live}

-- a rule's law gives that of its step
pub rule-lawful : {V : Type 0} (eq : V → V → Bool) (first : ℕ → V) (gives : ℕ → GateValue → List (Signal × V) → V) → IsEquivalence eq → ((n : ℕ) (g : GateValue) (X Y : ℕ → V) → ((m : ℕ) → In m (map (λ (s : Signal). s.node.0) g.fanins) → eq (X m) (Y m) ≡ true) → eq (gives n g (map {B = Signal × V} (λ s. (s, X s.node.0)) g.fanins)) (gives n g (map {B = Signal × V} (λ s. (s, Y s.node.0)) g.fanins)) ≡ true) → IsLawful eq (rule_step first gives)
rule-lawful {V} eq first gives E agrees = record {
  same = E.refl;
  turned = λ a b e. sym (E.symm a b) ∙ e;
  joined = λ a b c e f. E.congr a b c e ∙ f;
  steps = steps;
}
  where
    steps : (n : ℕ) (e : Entry) (X Y : ℕ → V) → ((m : ℕ) → In m (map (λ (s : Signal). s.node.0) (fanins_of e)) → eq (X m) (Y m) ≡ true) → eq (rule_step first gives n e (map {B = Signal × V} (λ s. (s, X s.node.0)) (fanins_of e))) (rule_step first gives n e (map {B = Signal × V} (λ s. (s, Y s.node.0)) (fanins_of e))) ≡ true
    steps n Constant X Y h = E.refl (first n)
    steps n (Input k) X Y h = E.refl (first n)
    steps n (IsGate g) X Y h = agrees n g X Y h

pair-level : {V : Type 0} (eq : V → V → Bool) (a b : V × ℕ) → pair_eq eq a b ≡ true → a.1 ≡ b.1
pair-level eq a b e = eqb-is a.1 b.1 (and-right (eq a.0 b.0) (eqb a.1 b.1) e)

parent-gate : (o : Option Entry) (n : ℕ) → In n (fanin_nodes o) → IsSome (gate_in o)
parent-gate None n i = absurd i
parent-gate (Some Constant) n i = absurd i
parent-gate (Some (Input k)) n i = absurd i
parent-gate (Some (IsGate g)) n i = refl

module _ {V : Type 0} (eq : V → V → Bool) (first : ℕ → V) (gives : ℕ → GateValue → List (Signal × V) → V) (law : IsLawful eq (rule_step first gives)) (M N : NetworkValue) (k : ℕ) (cm : Acyclic M) (cn : Acyclic N) (same : SameBut M N k) (values0 : List V) (levels0 : List (Option ℕ)) (before : IsKept eq first gives M values0 levels0) where
  pub run-start : (waits0 waits : List (Option ℕ)) (lv : ℕ) → IsSound N values0 levels0 waits0 → ((m : ℕ) → mark waits0 m ≡ false) → IsSome (gate_in (entry_at N k)) → ((m : ℕ) → height levels0 m ≤ 1048576) → waits ≡ set waits0 k (Some lv) → IsRunning eq first gives M N k values0 levels0 values0 levels0 waits
  run-start waits0 waits lv S idle gate small is = record {
    sound = record { levels_len = S.levels_len; waits_len = (let a = ap length is in let b = length-set waits0 k (Some lv) in let d = S.waits_len in omega arith); room = S.room; known = S.known; dead = S.dead };
    repairing = repair-start (pair_eq eq) (pair_step (rule_step first gives)) (first 0, 0) (pair-lawful eq (rule_step first gives) law) M N k (level M) (answer (first 0) values0 levels0) (mark waits) cm same before one (ap (λ z. mark z k) is ∙ ap is_some (get_or-set_same waits0 k (Some lv) None inside));
    gates = λ m t. subst (λ z. IsSome (gate_in (entry_at N z))) (sym (one m t)) gate;
    small = small;
  }
    where
      inside : k < length waits0
      inside = let r = S.room k (gate-live _ gate) in let l = S.waits_len in omega arith

      one : (m : ℕ) → mark waits m ≡ true → m ≡ k
      one m t = elim (eqb_tells m k) as (λ _. m ≡ k) [ inl p ↦ p.1 | inr p ↦ (let f : true ≡ false = sym t ∙ ap (λ z. mark z m) is ∙ ap is_some (get_or-set_other waits0 k m (Some lv) None p.1) ∙ idle m in cc) ]

  module _ (values : List V) (levels : List (Option ℕ)) (waits : List (Option ℕ)) (R : IsRunning eq first gives M N k values0 levels0 values levels waits) where
    -- what waits has its old level
    old-level : (m : ℕ) → mark waits m ≡ true → height levels m ≡ level M m
    old-level m t =
        sym (answer-level (first 0) values levels m)
        ∙ ap (λ (p : V × ℕ). p.1) (R.repairing.fresh m t)
        ∙ pair-level eq (answer (first 0) values0 levels0 m) (scratch first gives M m) (before m)
        ∙ ap (λ (p : V × ℕ). p.1) (pair-over M (rule_step first gives) (first 0) cm m)

    -- the parents of what comes next stand no lower
    pub run-rises : (n p : ℕ) → IsNext (height levels) (mark waits) n → IsParent N n p → height levels n ≤ height levels p
    run-rises n p next i =
        let by-old : IsNext (level M) (mark waits) n = record { waits = next.waits; least = λ m t. let a = next.least m t in let b = old-level n next.waits in let c = old-level m t in omega arith } in
        let up = parent-old (pair_eq eq) (pair_step (rule_step first gives)) (first 0, 0) (pair-lawful eq (rule_step first gives) law) M N k (answer (first 0) values0 levels0) (answer (first 0) values levels) (mark waits) cm cn same R.repairing n by-old p i in
        let here = old-level n next.waits in
        let there : height levels p ≡ level M p = sym (answer-level (first 0) values levels p)
        ∙ ap (λ (q : V × ℕ). q.1) (R.repairing.later p n next.waits up)
        ∙ pair-level eq (answer (first 0) values0 levels0 p) (scratch first gives M p) (before p)
        ∙ ap (λ (q : V × ℕ). q.1) (pair-over M (rule_step first gives) (first 0) cm p) in
        omega arith

    pub run-end : ((m : ℕ) → mark waits m ≡ false) → IsKept eq first gives N values levels
    run-end idle = repair-end (pair_eq eq) (pair_step (rule_step first gives)) (first 0, 0) (pair-lawful eq (rule_step first gives) law) N k (level M) (answer (first 0) values0 levels0) (answer (first 0) values levels) (mark waits) cn R.repairing idle

    module _ (n : ℕ) (next : IsNext (height levels) (mark waits) n) (values2 : List V) (levels2 : List (Option ℕ)) (waits2 : List (Option ℕ)) (S : IsSound N values2 levels2 waits2) (s : IsSettled (pair_eq eq) N n (pair_step (rule_step first gives)) (first 0, 0) (answer (first 0) values levels) (answer (first 0) values2 levels2) (mark waits) (mark waits2)) where
      by-old : IsNext (level M) (mark waits) n
      by-old = record { waits = next.waits; least = λ m t. let a = next.least m t in let b = old-level n next.waits in let c = old-level m t in omega arith }

      -- a bound on levels that holds of the network and of what was kept holds of what is kept
      pub run-low : (top : ℕ) → ((m : ℕ) → level N m ≤ top) → ((m : ℕ) → height levels m ≤ top) → (m : ℕ) → height levels2 m ≤ top
      run-low top limit low m = elim (eqb_tells m n) as (λ _. height levels2 m ≤ top) [ inl p ↦ subst (λ z. height levels2 z ≤ top) (sym p.1) here | inr p ↦ apart m p.1 ]
        where
          here : height levels2 n ≤ top
          here =
              let final = taken-final (pair_eq eq) (pair_step (rule_step first gives)) (first 0, 0) (pair-lawful eq (rule_step first gives) law) M N k (answer (first 0) values0 levels0) (answer (first 0) values levels) (mark waits) cm cn same R.repairing n by-old (answer (first 0) values2 levels2 n) s.is in
              let e = sym (answer-level (first 0) values2 levels2 n) ∙ pair-level eq (answer (first 0) values2 levels2 n) (scratch first gives N n) final ∙ ap (λ (p : V × ℕ). p.1) (pair-over N (rule_step first gives) (first 0) cn n) in
              let l = limit n in
              subst (λ z. z ≤ top) (sym e) l

          apart : (m : ℕ) → m ≢ n → height levels2 m ≤ top
          apart m ne =
              let e = sym (answer-level (first 0) values2 levels2 m) ∙ ap (λ (p : V × ℕ). p.1) (s.each m ne) ∙ answer-level (first 0) values levels m in
              subst (λ z. z ≤ top) (sym e) (low m)

      pub run-step : ((m : ℕ) → level N m ≤ 1048576) → IsRunning eq first gives M N k values0 levels0 values2 levels2 waits2
      run-step limit = record {
        sound = S;
        repairing = repair-settled (pair_eq eq) (pair_step (rule_step first gives)) (first 0, 0) (pair-lawful eq (rule_step first gives) law) M N k (answer (first 0) values0 levels0) (answer (first 0) values levels) (mark waits) cm cn same R.repairing n by-old (answer (first 0) values2 levels2) (mark waits2) s;
        gates = λ m t. elim (mark waits m) as (λ b. (mark waits m ≡ b) → IsSome (gate_in (entry_at N m))) [ true ↦ λ e. R.gates m e | false ↦ λ e. parent-gate (entry_at N m) n (s.taken.only m t e) ] refl;
        small = run-low 1048576 limit R.small;
      }

      -- a change brings n's fanout
      pub spread-step : spread eq (first 0) N values0 levels0 values levels + cond (pair_eq eq (answer (first 0) values2 levels2 n) (answer (first 0) values levels n)) 0 (length (fan N n)) ≤ spread eq (first 0) N values0 levels0 values2 levels2
      unfolding fanouts_in
      spread-step =
          let X : ℕ → V × ℕ = answer (first 0) values levels in
          let Y : ℕ → V × ℕ = answer (first 0) values2 levels2 in
          let old : ℕ → V × ℕ = answer (first 0) values0 levels0 in
          subst (λ z. fanouts N (λ x. not (pair_eq eq (answer (first 0) values levels x) (answer (first 0) values0 levels0 x))) (keys N.nodes) + cond (pair_eq eq (answer (first 0) values2 levels2 n) (answer (first 0) values levels n)) 0 (length (fan N n)) ≤ fanouts N (λ x. not (pair_eq eq (z x) (answer (first 0) values0 levels0 x))) (keys N.nodes)) (put-of (answer (first 0) values levels) (answer (first 0) values2 levels2) n s.each)
          (elim (pair_eq eq (answer (first 0) values2 levels2 n) (answer (first 0) values levels n)) as (λ b. (pair_eq eq (answer (first 0) values2 levels2 n) (answer (first 0) values levels n) ≡ b) → fanouts N (λ x. not (pair_eq eq (answer (first 0) values levels x) (answer (first 0) values0 levels0 x))) (keys N.nodes) + cond b 0 (length (fan N n)) ≤ fanouts N (λ x. not (pair_eq eq (put (answer (first 0) values levels) n (answer (first 0) values2 levels2 n) x) (answer (first 0) values0 levels0 x))) (keys N.nodes)) [
            | true ↦ λ e. (let h = differing-grow (pair_eq eq) (pair-lawful eq (rule_step first gives) law).same (answer (first 0) values0 levels0) (answer (first 0) values levels) n (answer (first 0) values2 levels2 n) (R.repairing.fresh n next.waits) N (keys N.nodes) in omega arith)
            | false ↦ λ e. differing-more (pair_eq eq) (pair-lawful eq (rule_step first gives) law).same (answer (first 0) values0 levels0) (answer (first 0) values levels) n (answer (first 0) values2 levels2 n) (R.repairing.fresh n next.waits) N (keys N.nodes) e (live-key N n (gate-live (entry_at N n) (R.gates n next.waits)))
          ] refl)

  -- at the end the numbers that differ are those that differ from scratch
  pub spread-end : (values : List V) (levels : List (Option ℕ)) → IsKept eq first gives N values levels → spread eq (first 0) N values0 levels0 values levels ≤ fanouts_in N (λ x. not (pair_eq eq (scratch first gives N x) (scratch first gives M x)))
  unfolding fanouts_in
  spread-end values levels after = fanouts-grow N _ _ (keys N.nodes) (λ x d. elim (pair_eq eq (scratch first gives N x) (scratch first gives M x)) as (λ b. (pair_eq eq (scratch first gives N x) (scratch first gives M x) ≡ b) → not b ≡ true) [
    | true ↦ λ e. (let f : false ≡ true = sym (ap not (P.joined _ _ _ (after x) (P.joined _ _ _ e (P.turned _ _ (before x))))) ∙ d in cc)
    | false ↦ λ e. refl
  ] refl)
    where
      P : IsLawful (pair_eq eq) (pair_step (rule_step first gives))
      P = pair-lawful eq (rule_step first gives) law

pub spread-limit : {V : Type 0} (eq : V → V → Bool) (none : V) (N : NetworkValue) (values0 : List V) (levels0 : List (Option ℕ)) (values : List V) (levels : List (Option ℕ)) → spread eq none N values0 levels0 values levels ≤ all_fanouts N
unfolding fanouts_in
spread-limit eq none N values0 levels0 values levels = fanouts-grow N _ _ (keys N.nodes) (λ x d. refl)

pub cond-twice : (b : Bool) (f : ℕ) → cond b 0 (2 * f) ≡ 2 * cond b 0 f
cond-twice true f = omega arith
cond-twice false f = omega arith
