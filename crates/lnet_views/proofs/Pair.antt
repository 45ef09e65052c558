-- A rule's value and the level together: their step, and that it is lawful where the rule is.
use Rattle.std.proofs.Common.{◌≡◌, ℕ, Bool, true, false, eqb, map, None, Some, refl, sym, ap, subst, ◌∙◌, inl, inr}
use Rattle.std.specs.Prelude.{◌&&◌}
use Rattle.std.proofs.lemmas.Bool.Decides.{eqb_tells}
use Rattle.lnet_gates.specs.declared.signal.Signal.{Signal}
use Rattle.lnet_model.specs.Networks.{NetworkValue, entry_at, fanins_of}
use Rattle.lnet_model.specs.Along.{at_entry, once, over, Acyclic}
use Rattle.lnet_model.specs.Levels.{level_step, level}
use Rattle.lnet_views.specs.Repair.{IsLawful, pair_step, pair_eq}
use Rattle.lnet_model.proofs.Along.{Step, pairs-same}
use Rattle.lnet_model.proofs.Over.{over-once, over-unique}
use Rattle.lnet_model.proofs.Values.{map-pairs}

pub eqb-same : (a b : ℕ) → a ≡ b → eqb a b ≡ true
eqb-same a b e = elim (eqb_tells a b) as (λ _. eqb a b ≡ true) [ inl p ↦ p.0 | inr p ↦ absurd (p.1 e) ]

pub eqb-is : (a b : ℕ) → eqb a b ≡ true → a ≡ b
eqb-is a b e = elim (eqb_tells a b) as (λ _. a ≡ b) [ inl p ↦ p.1 | inr p ↦ (let f : true ≡ false = sym e ∙ p.0 in cc) ]

pub both : (b c : Bool) → b ≡ true → c ≡ true → (b && c) ≡ true
both true c e f = f
both false c e f = e

pub and-left : (b c : Bool) → (b && c) ≡ true → b ≡ true
and-left true c e = refl
and-left false c e = e

pub and-right : (b c : Bool) → (b && c) ≡ true → c ≡ true
and-right true c e = e
and-right false c e = let f : false ≡ true = e in cc

module _ {V : Type 0} (eq : V → V → Bool) (step : Step V) (law : IsLawful eq step) where
  pub pair-lawful : IsLawful (pair_eq eq) (pair_step step)
  pair-lawful = record {
    same = λ a. both _ _ (law.same a.0) (eqb-same a.1 a.1 refl);
    turned = λ a b e. both _ _ (law.turned a.0 b.0 (and-left _ _ e)) (eqb-same b.1 a.1 (sym (eqb-is a.1 b.1 (and-right _ _ e))));
    joined = λ a b c e f. both _ _ (law.joined a.0 b.0 c.0 (and-left _ _ e) (and-left _ _ f)) (eqb-same a.1 c.1 (eqb-is a.1 b.1 (and-right _ _ e) ∙ eqb-is b.1 c.1 (and-right _ _ f)));
    steps = λ n e X Y h. both _ _
        (subst (λ z. eq (step n e z) (step n e (map {B = Signal × V} (λ r. (r.0, r.1.0)) (map {B = Signal × (V × ℕ)} (λ s. (s, Y s.node.0)) (fanins_of e)))) ≡ true) (sym (map-pairs X (λ r. (r.0, r.1.0)) (fanins_of e)))
        (subst (λ z. eq (step n e (map (λ s. (s, (X s.node.0).0)) (fanins_of e))) (step n e z) ≡ true) (sym (map-pairs Y (λ r. (r.0, r.1.0)) (fanins_of e)))
        (law.steps n e (λ m. (X m).0) (λ m. (Y m).0) (λ m i. and-left _ _ (h m i)))))
        (eqb-same _ _ (ap (level_step n e) (map-pairs X (λ r. (r.0, r.1.1)) (fanins_of e) ∙ pairs-same (fanins_of e) (λ m. (X m).1) (λ m. (Y m).1) (λ m i. eqb-is _ _ (and-right _ _ (h m i))) ∙ sym (map-pairs Y (λ r. (r.0, r.1.1)) (fanins_of e)))));
  }

-- the two halves of what the pair's recursion gives
pub pair-over : {V : Type 0} (N : NetworkValue) (step : Step V) (none : V) → Acyclic N → (n : ℕ) → over N (pair_step step) (none, 0) n ≡ (over N step none n, level N n)
pair-over {V} N step none acyclic = over-unique N (pair_step step) (none, 0) (λ n. (over N step none n, level N n)) acyclic solves
  where
    halves : (n : ℕ) → (once (entry_at N) step none (over N step none) n, once (entry_at N) level_step 0 (level N) n) ≡ once (entry_at N) (pair_step step) (none, 0) (λ n. (over N step none n, level N n)) n
    halves n = elim (entry_at N n) as (λ o. ◌≡◌ {A = V × ℕ} (at_entry none (λ e. step n e (map {B = Signal × V} (λ s. (s, over N step none s.node.0)) (fanins_of e))) o, at_entry 0 (λ e. level_step n e (map {B = Signal × ℕ} (λ s. (s, level N s.node.0)) (fanins_of e))) o) (at_entry (none, 0) (λ e. pair_step step n e (map {B = Signal × (V × ℕ)} (λ s. (s, (over N step none s.node.0, level N s.node.0))) (fanins_of e))) o)) [
      | None ↦ refl
      | Some e ↦ λ i. (step n e (sym (map-pairs {A = V × ℕ} (λ m. (over N step none m, level N m)) (λ r. (r.0, r.1.0)) (fanins_of e)) i), level_step n e (sym (map-pairs {A = V × ℕ} (λ m. (over N step none m, level N m)) (λ r. (r.0, r.1.1)) (fanins_of e)) i))
    ]

    solves : (n : ℕ) → (over N step none n, level N n) ≡ once (entry_at N) (pair_step step) (none, 0) (λ n. (over N step none n, level N n)) n
    solves n = (λ i. (over-once N step none acyclic n i, over-once N level_step 0 acyclic n i)) ∙ halves n
