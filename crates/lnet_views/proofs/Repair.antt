-- The repair's rule is kept by each step, and its end is the answers from scratch.
use Rattle.std.proofs.Common.{◌≡◌, ◌≢◌, ℕ, ◌<◌, ◌≤◌, Bool, true, false, cond, eqb, map, None, Some, refl, sym, ap, subst, ◌∙◌, inl, inr, arith}
use Rattle.std.proofs.lemmas.Bool.Decides.{eqb_tells}
use Rattle.std.specs.Prelude.{◌⊎◌}
use Rattle.lnet_gates.specs.declared.signal.Signal.{Signal}
use Rattle.lnet_model.specs.Networks.{NetworkValue, Lookup, entry_at, fanins_of}
use Rattle.lnet_model.specs.Along.{at_entry, once, over, In, fanin_nodes, Acyclic}
use Rattle.lnet_model.specs.Levels.{level}
use Rattle.lnet_model.specs.Fanouts.{IsParent}
use Rattle.lnet_views.specs.Repair.{put, SameBut, IsLawful, IsFromScratch, IsRepairing, IsNext, IsTaken, IsSettled}
use Rattle.lnet_model.proofs.Along.{Step, once-same}
use Rattle.lnet_model.proofs.Over.{over-once, along_induction, once-entry}
use Rattle.lnet_model.proofs.Levels.{level-falls}

pub put-here : {A : Type 0} (V : ℕ → A) (n : ℕ) (a : A) (q : ℕ) → q ≡ n → put V n a q ≡ a
put-here V n a q e = elim (eqb_tells q n) as (λ _. cond (eqb q n) a (V q) ≡ a) [ inl p ↦ ap (λ b. cond b a (V q)) p.0 | inr p ↦ absurd (p.1 e) ]

pub put-apart : {A : Type 0} (V : ℕ → A) (n : ℕ) (a : A) (q : ℕ) → q ≢ n → put V n a q ≡ V q
put-apart V n a q ne = elim (eqb_tells q n) as (λ _. cond (eqb q n) a (V q) ≡ V q) [ inl p ↦ absurd (ne p.1) | inr p ↦ ap (λ b. cond b a (V q)) p.0 ]

module _ {A : Type 0} (eq : A → A → Bool) (step : Step A) (none : A) (law : IsLawful eq step) where
  pub is-same : (a b : A) → a ≡ b → eq a b ≡ true
  is-same a b e = subst (λ z. eq a z ≡ true) e (law.same a)

  -- a step reads V at the fanins alone
  pub once-like : (g : Lookup) (V W : ℕ → A) (n : ℕ) → ((m : ℕ) → In m (fanin_nodes (g n)) → eq (V m) (W m) ≡ true) → eq (once g step none V n) (once g step none W n) ≡ true
  once-like g V W n same =
      elim (g n) as (λ o. ((m : ℕ) → In m (fanin_nodes o) → eq (V m) (W m) ≡ true) → eq (at_entry none (λ e. step n e (map {B = Signal × A} (λ s. (s, V s.node.0)) (fanins_of e))) o) (at_entry none (λ e. step n e (map {B = Signal × A} (λ s. (s, W s.node.0)) (fanins_of e))) o) ≡ true) [
        | None ↦ λ _. law.same none
        | Some e ↦ λ k. law.steps n e V W k
      ] same

  -- what agrees with its fanins everywhere is from scratch
  pub over-like : (N : NetworkValue) (V : ℕ → A) → Acyclic N → ((n : ℕ) → eq (V n) (once (entry_at N) step none V n) ≡ true) → IsFromScratch eq N step none V
  over-like N V acyclic solves =
      let P : ℕ → Type 0 = λ n. eq (V n) (over N step none n) ≡ true in
      along_induction N P acyclic (λ n below.
      law.joined (V n) (once (entry_at N) step none V n) (over N step none n) (solves n)
      (subst (λ z. eq (once (entry_at N) step none V n) z ≡ true) (sym (over-once N step none acyclic n)) (once-like (entry_at N) V (over N step none) n below)))

  -- and the other way round
  pub like-over : (N : NetworkValue) (V : ℕ → A) → Acyclic N → IsFromScratch eq N step none V → (n : ℕ) → eq (V n) (once (entry_at N) step none V n) ≡ true
  like-over N V acyclic is n =
      law.joined (V n) (over N step none n) (once (entry_at N) step none V n) (is n)
      (subst (λ z. eq z (once (entry_at N) step none V n) ≡ true) (sym (over-once N step none acyclic n)) (once-like (entry_at N) (over N step none) V n (λ m i. law.turned (V m) (over N step none m) (is m))))

  -- where nothing waits, the answers are those from scratch
  pub repair-end : (N : NetworkValue) (k : ℕ) (height : ℕ → ℕ) (old V : ℕ → A) (W : ℕ → Bool) → Acyclic N → IsRepairing eq N k step none height old V W → ((n : ℕ) → W n ≡ false) → IsFromScratch eq N step none V
  repair-end N k height old V W acyclic I idle = over-like N V acyclic (λ n. I.settled n (idle n))

  -- at the start k alone waits
  pub repair-start : (M N : NetworkValue) (k : ℕ) (height : ℕ → ℕ) (old : ℕ → A) (W : ℕ → Bool) → Acyclic M → SameBut M N k → IsFromScratch eq M step none old → ((n : ℕ) → W n ≡ true → n ≡ k) → W k ≡ true → IsRepairing eq N k step none height old old W
  repair-start M N k height old W acyclic same before one at = record {
    settled = λ n idle. let ne : n ≢ k = λ e. (let t : true ≡ false = sym at ∙ ap W (sym e) ∙ idle in cc) in
        subst (λ z. eq (old n) z ≡ true) (once-entry (entry_at M) (entry_at N) step none old n (same n ne)) (like-over M old acyclic before n);
    fresh = λ n w. refl;
    later = λ x n w l. refl;
    above = λ n w. let e = ap (level N) (one n w) in omega arith;
  }

  module _ (M N : NetworkValue) (k : ℕ) (old V : ℕ → A) (W : ℕ → Bool) (cm : Acyclic M) (cn : Acyclic N) (same : SameBut M N k) (I : IsRepairing eq N k step none (level M) old V W) (n : ℕ) (next : IsNext (level M) W n) where
    -- the parents of what is taken: k is none of them, so they had n as a fanin before
    parent-new : (p : ℕ) → IsParent N n p → level N n < level N p
    parent-new p i = level-falls N cn p n i

    parent-apart : (p : ℕ) → IsParent N n p → p ≢ k
    parent-apart p i e = let a = parent-new p i in let b = I.above n next.waits in let c = ap (level N) e in omega arith

    pub parent-old : (p : ℕ) → IsParent N n p → level M n < level M p
    parent-old p i = level-falls M cm p n (subst (λ o. In n (fanin_nodes o)) (sym (same p (parent-apart p i))) i)

    module _ (v : A) (is : eq v (once (entry_at N) step none V n) ≡ true) (W2 : ℕ → Bool) (w : IsTaken N n (eq v (V n)) W W2) where
      cases : (m : ℕ) → W2 m ≡ true → (W m ≡ true) ⊎ IsParent N n m
      cases m t = elim (W m) as (λ b. (W m ≡ b) → (W m ≡ true) ⊎ IsParent N n m) [ true ↦ λ e. inl e | false ↦ λ e. inr (w.only m t e) ] refl

      not-own : (m : ℕ) → W2 m ≡ true → m ≢ n
      not-own m t e = let f : true ≡ false = sym t ∙ ap W2 e ∙ w.taken in cc

      was-idle : (q : ℕ) → q ≢ n → W2 q ≡ false → W q ≡ false
      was-idle q ne idle = elim (W q) as (λ b. (W q ≡ b) → W q ≡ false) [ true ↦ λ e. (let f : true ≡ false = sym (w.stays q ne e) ∙ idle in cc) | false ↦ λ e. e ] refl

      -- what doesn't wait reads what it read
      same-read : (q : ℕ) → W2 q ≡ false → (m : ℕ) → IsParent N m q → eq (V m) (put V n v m) ≡ true
      same-read q idle m i =
          elim (eqb_tells m n) as (λ _. eq (V m) (put V n v m) ≡ true) [
            | inl p ↦ subst (λ z. eq (V m) z ≡ true) (sym (put-here V n v m p.1)) (subst (λ z. eq (V z) v ≡ true) (sym p.1) (law.turned v (V n) (elim (eq v (V n)) as (λ b. (eq v (V n) ≡ b) → eq v (V n) ≡ true) [
              | true ↦ λ e. e
              | false ↦ λ e. (let f : true ≡ false = sym (w.parents e q (subst (λ z. IsParent N z q) p.1 i)) ∙ idle in cc)
            ] refl)))
            | inr p ↦ is-same (V m) (put V n v m) (sym (put-apart V n v m p.1))
          ]

      rises : (q : ℕ) → W2 q ≡ true → level M n ≤ level M q
      rises q t = elim (cases q t) as (λ _. level M n ≤ level M q) [ inl e ↦ next.least q e | inr i ↦ (let a = parent-old q i in omega arith) ]

      settles : (q : ℕ) → W2 q ≡ false → eq (put V n v q) (once (entry_at N) step none (put V n v) q) ≡ true
      settles q idle =
          elim (eqb_tells q n) as (λ _. eq (put V n v q) (once (entry_at N) step none (put V n v) q) ≡ true) [
            | inl p ↦ subst (λ z. eq z (once (entry_at N) step none (put V n v) q) ≡ true) (sym (put-here V n v q p.1))
                (subst (λ z. eq v z ≡ true) (ap (once (entry_at N) step none V) (sym p.1) ∙ sym (once-same (entry_at N) step none (put V n v) V q (λ m i. put-apart V n v m (λ e. let f = level-falls N cn q m i in let g = ap (level N) (e ∙ sym p.1) in omega arith)))) is)
            | inr p ↦ subst (λ z. eq z (once (entry_at N) step none (put V n v) q) ≡ true) (sym (put-apart V n v q p.1))
                (law.joined (V q) (once (entry_at N) step none V q) (once (entry_at N) step none (put V n v) q) (I.settled q (was-idle q p.1 idle)) (once-like (entry_at N) V (put V n v) q (same-read q idle)))
          ]

      pub repair-step : IsRepairing eq N k step none (level M) old (put V n v) W2
      repair-step = record {
        settled = settles;
        fresh = λ q t. put-apart V n v q (not-own q t) ∙ elim (cases q t) as (λ _. V q ≡ old q) [ inl e ↦ I.fresh q e | inr i ↦ I.later q n next.waits (parent-old q i) ];
        later = λ x q t l. let up = rises q t in let ne : x ≢ n = λ e. (let h = ap (level M) e in omega arith) in put-apart V n v x ne ∙ elim (cases q t) as (λ _. V x ≡ old x) [ inl e ↦ I.later x q e l | inr i ↦ I.later x n next.waits (omega arith) ];
        above = λ q t. elim (cases q t) as (λ _. level N k ≤ level N q) [ inl e ↦ I.above q e | inr i ↦ (let a = parent-new q i in let b = I.above n next.waits in omega arith) ];
      }

pub put-of : {A : Type 0} (V V2 : ℕ → A) (n : ℕ) → ((q : ℕ) → q ≢ n → V2 q ≡ V q) → put V n (V2 n) ≡ V2
put-of V V2 n each = λ i q. at q i
  where
    at : (q : ℕ) → put V n (V2 n) q ≡ V2 q
    at q = elim (eqb_tells q n) as (λ _. put V n (V2 n) q ≡ V2 q) [ inl p ↦ put-here V n (V2 n) q p.1 ∙ ap V2 (sym p.1) | inr p ↦ put-apart V n (V2 n) q p.1 ∙ sym (each q p.1) ]

module _ {A : Type 0} (eq : A → A → Bool) (step : Step A) (none : A) (law : IsLawful eq step) (M N : NetworkValue) (k : ℕ) (old V : ℕ → A) (W : ℕ → Bool) (cm : Acyclic M) (cn : Acyclic N) (same : SameBut M N k) (I : IsRepairing eq N k step none (level M) old V W) where
  -- what can't come to wait any more is final: it is below k, or stood lower than all that waits
  module _ (n : ℕ) (next : IsNext (level M) W n) where
    idle-below : (m : ℕ) → level N m < level N k → W m ≡ false
    idle-below m l = elim (W m) as (λ b. (W m ≡ b) → W m ≡ false) [ true ↦ λ e. (let a = I.above m e in absurd (omega arith)) | false ↦ λ e. e ] refl

    idle-lower : (m : ℕ) → level M m < level M n → W m ≡ false
    idle-lower m l = elim (W m) as (λ b. (W m ≡ b) → W m ≡ false) [ true ↦ λ e. (let a = next.least m e in absurd (omega arith)) | false ↦ λ e. e ] refl

    finals : (m : ℕ) → ((j : ℕ) → In j (fanin_nodes (entry_at N m)) → eq (V j) (over N step none j) ≡ true) → W m ≡ false → eq (V m) (over N step none m) ≡ true
    finals m below idle =
        law.joined (V m) (once (entry_at N) step none V m) (over N step none m) (I.settled m idle)
        (subst (λ z. eq (once (entry_at N) step none V m) z ≡ true) (sym (over-once N step none cn m)) (once-like eq step none law (entry_at N) V (over N step none) m below))

    final-below : (m : ℕ) → level N m < level N k → eq (V m) (over N step none m) ≡ true
    final-below =
        along_induction N (λ m. level N m < level N k → eq (V m) (over N step none m) ≡ true) cn
        (λ m below l. finals m (λ j i. let f = level-falls N cn m j i in below j i (omega arith)) (idle-below m l))

    final-lower : (m : ℕ) → level M m < level M n → eq (V m) (over N step none m) ≡ true
    final-lower =
        along_induction N (λ m. level M m < level M n → eq (V m) (over N step none m) ≡ true) cn
        (λ m below l. finals m (λ j i. elim (eqb_tells m k) as (λ _. eq (V j) (over N step none j) ≡ true) [
          | inl p ↦ final-below j (let f = level-falls N cn m j i in let e = ap (level N) p.1 in omega arith)
          | inr p ↦ below j i (let f = level-falls M cm m j (subst (λ o. In j (fanin_nodes o)) (sym (same m p.1)) i) in omega arith)
        ]) (idle-lower m l))

    -- so what is taken gets its final answer
    pub taken-final : (v : A) → eq v (once (entry_at N) step none V n) ≡ true → eq v (over N step none n) ≡ true
    taken-final v is =
        law.joined v (once (entry_at N) step none V n) (over N step none n) is
        (subst (λ z. eq (once (entry_at N) step none V n) z ≡ true) (sym (over-once N step none cn n)) (once-like eq step none law (entry_at N) V (over N step none) n (λ j i. elim (eqb_tells n k) as (λ _. eq (V j) (over N step none j) ≡ true) [
          | inl p ↦ final-below j (let f = level-falls N cn n j i in let e = ap (level N) p.1 in omega arith)
          | inr p ↦ final-lower j (level-falls M cm n j (subst (λ o. In j (fanin_nodes o)) (sym (same n p.1)) i))
        ])))

    pub repair-settled : (V2 : ℕ → A) (W2 : ℕ → Bool) → IsSettled eq N n step none V V2 W W2 → IsRepairing eq N k step none (level M) old V2 W2
    repair-settled V2 W2 s = subst (λ z. IsRepairing eq N k step none (level M) old z W2) (put-of V V2 n s.each) (repair-step eq step none law M N k old V W cm cn same I n next (V2 n) s.is W2 s.taken)
