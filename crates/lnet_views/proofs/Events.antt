-- Answers after a number was added or deleted.
use Rattle.std.proofs.Common.{◌≡◌, ◌≢◌, ℕ, ◌<◌, Bool, true, false, List, map, IsSome, Option, None, Some, refl, sym, ap, subst, ◌∙◌, inl, inr, arith, get_or, set, get_or-set_same, get_or-set_other, length, length-set}
use Rattle.std.proofs.lemmas.Bool.Decides.{eqb_tells}
use Rattle.lnet_gates.specs.declared.signal.Signal.{Signal}
use Rattle.lnet_gates.specs.Gates.{GateValue}
use Rattle.lnet_model.specs.Networks.{IsGate, NetworkValue, entry_at, fanins_of, gate_in, IsLive}
use Rattle.lnet_model.specs.Along.{at_entry, once, In, fanin_nodes, IsClosed, Acyclic}
use Rattle.lnet_model.specs.Levels.{level}
use Rattle.lnet_model.specs.Fanouts.{IsParent}
use Rattle.lnet_model.specs.Changes.{with_entry, without}
use Rattle.lnet_views.specs.Repair.{SameBut, IsLawful, IsFromScratch, pair_step, pair_eq}
use Rattle.lnet_views.specs.Rules.{rule_step}
use Rattle.lnet_views.specs.Keeping.{at_level, answer, IsSound, IsKept}
use Rattle.lnet_model.proofs.Along.{Step, once-same}
use Rattle.lnet_model.proofs.Over.{once-entry}
use Rattle.lnet_model.proofs.Changes.{with_entry-here, with_entry-apart, without-here, without-apart}
use Rattle.lnet_model.proofs.Levels.{level-falls}
use Rattle.lnet_views.proofs.Pair.{pair-lawful}
use Rattle.lnet_views.proofs.Renewal.{renewed-here, renewed-apart}
use Rattle.lnet_views.proofs.Repair.{is-same, over-like, like-over}

module _ {A : Type 0} (eq : A → A → Bool) (step : Step A) (none : A) (law : IsLawful eq step) (M N : NetworkValue) (n : ℕ) (cm : Acyclic M) (cn : Acyclic N) (same : SameBut M N n) (X Y : ℕ → A) (before : IsFromScratch eq M step none X) (each : (q : ℕ) → q ≢ n → Y q ≡ X q) where
  -- what doesn't read n stays
  unread : (q : ℕ) → q ≢ n → (IsParent N n q → ⊥) → eq (Y q) (once (entry_at N) step none Y q) ≡ true
  unread q ne apart =
      let old = like-over eq step none law M X cm before q in
      let moved = once-entry (entry_at M) (entry_at N) step none X q (same q ne) in
      let reads = once-same (entry_at N) step none X Y q (λ m i. sym (each m (λ e. apart (subst (λ z. IsParent N z q) e i)))) in
      subst (λ z. eq z (once (entry_at N) step none Y q) ≡ true) (sym (each q ne)) (subst (λ z. eq (X q) z ≡ true) (moved ∙ reads) old)

  -- a new number: nothing had it as a fanin
  pub added-kept : IsClosed M → entry_at M n ≡ None → eq (Y n) (once (entry_at N) step none X n) ≡ true → IsFromScratch eq N step none Y
  added-kept closed free is = over-like eq step none law N Y cn (λ q. elim (eqb_tells q n) as (λ _. eq (Y q) (once (entry_at N) step none Y q) ≡ true) [
    | inl p ↦ subst (λ z. eq (Y z) (once (entry_at N) step none Y z) ≡ true) (sym p.1) (subst (λ z. eq (Y n) z ≡ true) (once-same (entry_at N) step none X Y n (λ m i. sym (each m (λ e. let f = level-falls N cn n m i in let g = ap (level N) e in omega arith)))) is)
    | inr p ↦ unread q p.1 (λ i. let z : false ≡ true = subst IsSome free (closed q n (subst (λ o. In n (fanin_nodes o)) (sym (same q p.1)) i)) in cc)
  ])

  -- a number deleted: nothing has it as a fanin
  pub deleted-kept : IsClosed N → entry_at N n ≡ None → Y n ≡ none → IsFromScratch eq N step none Y
  deleted-kept closed free is = over-like eq step none law N Y cn (λ q. elim (eqb_tells q n) as (λ _. eq (Y q) (once (entry_at N) step none Y q) ≡ true) [
    | inl p ↦ subst (λ z. eq (Y z) (once (entry_at N) step none Y z) ≡ true) (sym p.1) (is-same eq step none law (Y n) (once (entry_at N) step none Y n) (is ∙ sym (ap (at_entry none (λ e. step n e (map {B = Signal × A} (λ s. (s, Y s.node.0)) (fanins_of e)))) free)))
    | inr p ↦ unread q p.1 (λ i. let z : false ≡ true = subst IsSome free (closed q n i) in cc)
  ])

-- the rest is live as before
pub apart-live : (N : NetworkValue) (n m : ℕ) → m ≢ n → IsLive N m → IsLive (without N n) m
apart-live N n m ne live = subst IsSome (sym (without-apart N n m ne)) live

pub enter-known : {V : Type 0} (N : NetworkValue) (n : ℕ) (values : List V) (levels : List (Option ℕ)) (waits : List (Option ℕ)) → Acyclic N → IsClosed N → IsSound (without N n) values levels waits → (m : ℕ) → IsParent N m n → IsSome (get_or levels m None)
enter-known N n values levels waits cn closed S m i = S.known m (apart-live N n m (λ e. let f = level-falls N cn n m i in let g = ap (level N) e in omega arith) (closed n m i))

module _ {V : Type 0} (N : NetworkValue) (n : ℕ) (v : V) (l : ℕ) (values values2 : List V) (levels levels2 : List (Option ℕ)) (waits waits2 : List (Option ℕ)) (vs : values2 ≡ set values n v) (ls : levels2 ≡ set levels n (Some l)) (ws : waits2 ≡ waits) (S : IsSound (without N n) values levels waits) (inside : n < length values) where
  inside2 : n < length levels
  inside2 = let e = S.levels_len in omega arith

  pub enter-sound : IsLive N n → ((m : ℕ) → IsLive N m → m < length values) → IsSound N values2 levels2 waits2
  enter-sound live room =
      let a = ap length vs ∙ length-set values n v in
      record {
        levels_len = ap length ls ∙ length-set levels n (Some l) ∙ S.levels_len ∙ sym a;
        waits_len = (let c = ap length ws in let d = S.waits_len in omega arith);
        room = λ m live. subst (λ z. m < z) (sym a) (room m live);
        known = λ m live. subst (λ z. IsSome (get_or z m None)) (sym ls) (elim (eqb_tells m n) as (λ _. IsSome (get_or (set levels n (Some l)) m None)) [
          | inl p ↦ subst IsSome (sym (ap (λ z. get_or (set levels n (Some l)) z None) p.1 ∙ get_or-set_same levels n (Some l) None inside2)) refl
          | inr p ↦ subst IsSome (sym (get_or-set_other levels n m (Some l) None p.1)) (S.known m (apart-live N n m p.1 live))
        ]);
        dead = λ m d. let ne : m ≢ n = λ e. (let z : false ≡ true = subst IsSome (ap (entry_at N) (sym e) ∙ d) live in cc) in ap (λ z. get_or z m None) ls ∙ get_or-set_other levels n m (Some l) None ne ∙ S.dead m (without-apart N n m ne ∙ d);
      }

  pub enter-kept : (eq : V → V → Bool) (first : ℕ → V) (gives : ℕ → GateValue → List (Signal × V) → V) → IsLawful eq (rule_step first gives) → Acyclic (without N n) → Acyclic N → IsClosed (without N n) → IsKept eq first gives (without N n) values levels → pair_eq eq (v, l) (once (entry_at N) (pair_step (rule_step first gives)) (first 0, 0) (answer (first 0) values levels) n) ≡ true → IsKept eq first gives N values2 levels2
  enter-kept eq first gives law cm cn closed before is =
      added-kept (pair_eq eq) (pair_step (rule_step first gives)) (first 0, 0) (pair-lawful eq (rule_step first gives) law) (without N n) N n cm cn (λ q ne. without-apart N n q ne) (answer (first 0) values levels) (answer (first 0) values2 levels2) before
      (renewed-apart (first 0) values levels n v l values2 levels2 vs ls)
      closed (without-here N n)
      (subst (λ z. pair_eq eq z (once (entry_at N) (pair_step (rule_step first gives)) (first 0, 0) (answer (first 0) values levels) n) ≡ true) (sym (renewed-here (first 0) values levels n v l values2 levels2 vs ls inside inside2)) is)

pub leave-inside : {V : Type 0} (N : NetworkValue) (n : ℕ) (g : GateValue) (values : List V) (levels : List (Option ℕ)) (waits : List (Option ℕ)) → IsSound (with_entry N n (IsGate g)) values levels waits → n < length levels
leave-inside N n g values levels waits S = let r = S.room n (subst IsSome (sym (with_entry-here N n (IsGate g))) refl) in let e = S.levels_len in omega arith

-- a number given up
module _ {V : Type 0} (N : NetworkValue) (n : ℕ) (g : GateValue) (values values2 : List V) (levels levels2 : List (Option ℕ)) (waits waits2 : List (Option ℕ)) (vs : values2 ≡ values) (ls : levels2 ≡ set levels n None) (ws : waits2 ≡ waits) (S : IsSound (with_entry N n (IsGate g)) values levels waits) (dead : entry_at N n ≡ None) where
  not-own : (m : ℕ) → IsLive N m → m ≢ n
  not-own m live e = let z : false ≡ true = subst IsSome (ap (entry_at N) e ∙ dead) live in cc

  was-live : (m : ℕ) → IsLive N m → IsLive (with_entry N n (IsGate g)) m
  was-live m live = subst IsSome (sym (with_entry-apart N n (IsGate g) m (not-own m live))) live

  pub leave-sound : IsSound N values2 levels2 waits2
  leave-sound = record {
    levels_len = ap length ls ∙ length-set levels n None ∙ S.levels_len ∙ sym (ap length vs);
    waits_len = (let c = ap length ws in let d = S.waits_len in let e = ap length vs in omega arith);
    room = λ m live. subst (λ z. m < z) (sym (ap length vs)) (S.room m (was-live m live));
    known = λ m live. subst (λ z. IsSome (get_or z m None)) (sym ls) (subst IsSome (sym (get_or-set_other levels n m None None (not-own m live))) (S.known m (was-live m live)));
    dead = λ m d. elim (eqb_tells m n) as (λ _. get_or levels2 m None ≡ None) [
      | inl p ↦ ap (λ z. get_or levels2 z None) p.1 ∙ ap (λ z. get_or z n None) ls ∙ get_or-set_same levels n None None (leave-inside N n g values levels waits S)
      | inr p ↦ ap (λ z. get_or z m None) ls ∙ get_or-set_other levels n m None None p.1 ∙ S.dead m (with_entry-apart N n (IsGate g) m p.1 ∙ d)
    ];
  }

  pub leave-kept : (eq : V → V → Bool) (first : ℕ → V) (gives : ℕ → GateValue → List (Signal × V) → V) → IsLawful eq (rule_step first gives) → Acyclic (with_entry N n (IsGate g)) → Acyclic N → IsClosed N → IsKept eq first gives (with_entry N n (IsGate g)) values levels → IsKept eq first gives N values2 levels2
  leave-kept eq first gives law cm cn closed before =
      deleted-kept (pair_eq eq) (pair_step (rule_step first gives)) (first 0, 0) (pair-lawful eq (rule_step first gives) law) (with_entry N n (IsGate g)) N n cm cn (with_entry-apart N n (IsGate g)) (answer (first 0) values levels) (answer (first 0) values2 levels2) before
      (λ q ne. (λ i. at_level (first 0) (get_or (vs i) q (first 0)) (get_or (ls i) q None)) ∙ ap (at_level (first 0) (get_or values q (first 0))) (get_or-set_other levels n q None None ne))
      closed dead
      ((λ i. at_level (first 0) (get_or (vs i) n (first 0)) (get_or (ls i) n None)) ∙ ap (at_level (first 0) (get_or values n (first 0))) (get_or-set_same levels n None None (leave-inside N n g values levels waits S)))

-- a modified number was live and is
pub modified-sound : {V : Type 0} (N : NetworkValue) (n : ℕ) (g : GateValue) (values : List V) (levels : List (Option ℕ)) (waits : List (Option ℕ)) → IsSome (gate_in (entry_at N n)) → IsSound (with_entry N n (IsGate g)) values levels waits → IsSound N values levels waits
modified-sound N n g values levels waits gate S = record { levels_len = S.levels_len; waits_len = S.waits_len; room = λ m live. S.room m (was m live); known = λ m live. S.known m (was m live); dead = λ m d. S.dead m (with_entry-apart N n (IsGate g) m (λ e. let z : false ≡ true = subst (λ o. IsSome (gate_in o)) (ap (entry_at N) (sym e) ∙ d) gate in cc) ∙ d) }
  where
    was : (m : ℕ) → IsLive N m → IsLive (with_entry N n (IsGate g)) m
    was m live = elim (eqb_tells m n) as (λ _. IsLive (with_entry N n (IsGate g)) m) [
      | inl p ↦ subst IsSome (sym (ap (entry_at (with_entry N n (IsGate g))) p.1 ∙ with_entry-here N n (IsGate g))) refl
      | inr p ↦ subst IsSome (sym (with_entry-apart N n (IsGate g) m p.1)) live
    ]
