-- What is kept as lists is in step where it is kept for a network, and the other way round.
use Rattle.std.proofs.Common.{◌≡◌, ℕ, zero, suc, ◌<◌, ◌≤◌, Bool, true, false, List, [], ◌∷◌, length, map, IsSome, Option, None, Some, refl, sym, ap, subst, ◌∙◌, inl, inr, arith, get_or, take}
use Rattle.std.specs.Prelude.{slice_get, option_map}
use Rattle.std.proofs.lemmas.Bool.{cases_lt}
use Rattle.std.proofs.lemmas.List.{get_or-take, get_or_past, length-take}
use Rattle.lnet_gates.specs.declared.signal.Signal.{Signal}
use Rattle.lnet_gates.specs.Gates.{GateValue}
use Rattle.lnet_model.specs.Networks.{NetworkValue, entry_at, fanins_of, IsLive}
use Rattle.lnet_model.specs.Along.{at_entry, over, Acyclic}
use Rattle.lnet_model.specs.Levels.{level}
use Rattle.lnet_model.specs.Dags.{AreBelow}
use Rattle.lnet_model.proofs.Over.{over-once}
use Rattle.lnet_views.proofs.Renewal.{answer-level}
use Rattle.lnet_views.specs.Repair.{IsLawful, pair_step, pair_eq}
use Rattle.lnet_views.specs.Rules.{rule_step, made, IsInStep}
use Rattle.lnet_views.specs.Keeping.{at_level, answer, IsSound, IsKept, scratch, height, paired, kept_at}
use Rattle.lnet_views.proofs.Pair.{both, eqb-same, eqb-is, and-left, and-right, pair-over}

pub dead-scratch : {V : Type 0} (first : ℕ → V) (gives : ℕ → GateValue → List (Signal × V) → V) (P : NetworkValue) → Acyclic P → (x : ℕ) → entry_at P x ≡ None → scratch first gives P x ≡ (first 0, 0)
dead-scratch {V} first gives P acyclic x dead = over-once P (pair_step (rule_step first gives)) (first 0, 0) acyclic x ∙ ap (at_entry (first 0, 0) (λ e. pair_step (rule_step first gives) x e (map {B = Signal × (V × ℕ)} (λ s. (s, over P (pair_step (rule_step first gives)) (first 0, 0) s.node.0)) (fanins_of e)))) dead

-- what stands inside a list
some-inside : {A : Type 0} (xs : List A) (n : ℕ) (d : A) → n < length xs → slice_get xs n ≡ Some (get_or xs n d)
some-inside [] n d h = absurd (omega arith)
some-inside (x ∷ xs) zero d h = refl
some-inside (x ∷ xs) (suc n) d h = some-inside xs n d (omega arith)

some-is : {A : Type 0} (xs : List A) (n : ℕ) (d v : A) → slice_get xs n ≡ Some v → get_or xs n d ≡ v
some-is [] n d v e = let z : None ≡ Some v = e in cc
some-is (x ∷ xs) zero d v e = let z : Some x ≡ Some v = e in cc
some-is (x ∷ xs) (suc n) d v e = some-is xs n d v e

none-past : {A B : Type 0} (xs : List A) (ys : List (Option B)) (n : ℕ) → length ys ≡ length xs → slice_get xs n ≡ None → get_or ys n None ≡ None
none-past xs [] n len e = refl
none-past [] (y ∷ ys) n len e = absurd (omega arith)
none-past (x ∷ xs) (y ∷ ys) zero len e = let z : Some x ≡ None = e in cc
none-past (x ∷ xs) (y ∷ ys) (suc n) len e = none-past xs ys n (omega arith) e

some-of : {A : Type 0} (o : Option A) → IsSome o → (a : A) × (o ≡ Some a)
some-of None h = let z : false ≡ true = h in cc
some-of (Some a) h = (a, refl)

-- what a pair tells of its halves
pair-halves : {V : Type 0} (o : Option V) (p : Option ℕ) (a : V × ℕ) → paired o p ≡ Some a → (o ≡ Some a.0) × (p ≡ Some a.1)
pair-halves None p a e = let z : None ≡ Some a = e in cc
pair-halves (Some v) None a e = let z : None ≡ Some a = e in cc
pair-halves (Some v) (Some l) a e = let z : Some (v, l) ≡ Some a = e in let w : (v, l) ≡ a = cc in (ap (λ (p : _ × ℕ). Some p.0) w, ap (λ (p : _ × ℕ). Some p.1) w)

pair-none : {V : Type 0} (o : Option V) (p : Option ℕ) → paired o p ≡ None → (o ≡ None → p ≡ None) → p ≡ None
pair-none None p e h = h refl
pair-none (Some v) None e h = refl
pair-none {V} (Some v) (Some l) e h = let z : ◌≡◌ {A = Option (V × ℕ)} (Some (v, l)) None = e in cc

module _ {V : Type 0} (eq : V → V → Bool) (first : ℕ → V) (gives : ℕ → GateValue → List (Signal × V) → V) (N : NetworkValue) (acyclic : Acyclic N) (values : List V) (levels : List (Option ℕ)) where
  pub to-step : (waits : List (Option ℕ)) → IsKept eq first gives N values levels → IsSound N values levels waits → IsInStep eq first gives (kept_at values levels) N
  unfolding kept_at
  to-step waits kept S = record {
    live = λ n live.
        let l = some-of (get_or levels n None) (S.known n live) in
        let is : answer (first 0) values levels n ≡ (get_or values n (first 0), l.0) = ap (at_level (first 0) (get_or values n (first 0))) l.1 in
        let same : pair_eq eq (get_or values n (first 0), l.0) (made first gives N n, level N n) ≡ true = subst (λ z. pair_eq eq z (made first gives N n, level N n) ≡ true) is (subst (λ z. pair_eq eq (answer (first 0) values levels n) z ≡ true) (pair-over N (rule_step first gives) (first 0) acyclic n) (kept n)) in
        ((get_or values n (first 0), l.0), (λ i. paired (some-inside values n (first 0) (S.room n live) i) (l.1 i)), and-left _ _ same, eqb-is _ _ (and-right _ _ same));
    dead = λ n d. ap (paired (slice_get values n)) (S.dead n d) ∙ elim (slice_get values n) as (λ o. paired o None ≡ None) [ None ↦ refl | Some v ↦ refl ];
  }

  module _ (law : IsLawful eq (rule_step first gives)) (len : length levels ≡ length values) (K : IsInStep eq first gives (kept_at values levels) N) where
    live-answer : (n : ℕ) → IsLive N n → (a : V × ℕ) × (get_or values n (first 0) ≡ a.0) × (get_or levels n None ≡ Some a.1) × (eq a.0 (made first gives N n) ≡ true) × (a.1 ≡ level N n)
    unfolding kept_at
    live-answer n live = let k = K.live n live in let h = pair-halves (slice_get values n) (get_or levels n None) k.0 k.1 in (k.0, some-is values n (first 0) k.0.0 h.0, h.1, k.2, k.3)

    pub dead-level : (n : ℕ) → entry_at N n ≡ None → get_or levels n None ≡ None
    unfolding kept_at
    dead-level n d = pair-none (slice_get values n) (get_or levels n None) (K.dead n d) (none-past values levels n len)

    pub from-kept : IsKept eq first gives N values levels
    from-kept n = elim (entry_at N n) as (λ o. (entry_at N n ≡ o) → pair_eq eq (answer (first 0) values levels n) (scratch first gives N n) ≡ true) [
      | None ↦ λ d. (let is : answer (first 0) values levels n ≡ (first 0, 0) = ap (at_level (first 0) (get_or values n (first 0))) (dead-level n d) in
          (λ i. pair_eq eq (is i) (dead-scratch first gives N acyclic n d i)) ∙ both _ _ (law.same (first 0)) refl)
      | Some e ↦ λ d. (let k = live-answer n (subst IsSome (sym d) refl) in
          let is : answer (first 0) values levels n ≡ k.0 = (λ i. at_level (first 0) (k.1 i) (k.2 i)) in
          (λ i. pair_eq eq (is i) (pair-over N (rule_step first gives) (first 0) acyclic n i)) ∙ both _ _ k.3 (eqb-same _ _ k.4))
    ] refl

    pub from-sound : (waits : List (Option ℕ)) → length values ≤ length waits → AreBelow N (length values) → IsSound N values levels waits
    from-sound waits same room = record {
      levels_len = len;
      waits_len = same;
      room = room;
      known = λ n live. let k = live-answer n live in subst IsSome (sym k.2) refl;
      dead = dead-level;
    }

-- ---- growth

get-take : {A : Type 0} (xs : List A) (k n : ℕ) → n < k → slice_get (take k xs) n ≡ slice_get xs n
get-take xs zero n h = absurd (omega arith)
get-take [] (suc k) n h = refl
get-take (x ∷ xs) (suc k) zero h = refl
get-take (x ∷ xs) (suc k) (suc n) h = get-take xs k n (omega arith)

no-level : {V : Type 0} (o : Option V) → paired o None ≡ None
no-level None = refl
no-level (Some v) = refl

past-end : {A : Type 0} (xs : List (Option A)) (n : ℕ) (l : A) → get_or xs n None ≡ Some l → n < length xs
past-end [] n l e = let z : None ≡ Some l = e in cc
past-end (x ∷ xs) zero l e = omega arith
past-end (x ∷ xs) (suc n) l e = let h = past-end xs n l e in omega arith

-- more values, and the same levels
pub kept-grown : {V : Type 0} (values values2 : List V) (levels levels2 : List (Option ℕ)) → length values ≡ length levels → ((n : ℕ) → n < length values → slice_get values2 n ≡ slice_get values n) → ((n : ℕ) → get_or levels2 n None ≡ get_or levels n None) → (n : ℕ) → kept_at values2 levels2 n ≡ kept_at values levels n
unfolding kept_at
kept-grown values values2 levels levels2 len same ls n = ap (paired (slice_get values2 n)) (ls n) ∙ elim (get_or levels n None) as (λ o. (get_or levels n None ≡ o) → paired (slice_get values2 n) o ≡ paired (slice_get values n) o) [
  | None ↦ λ e. no-level (slice_get values2 n) ∙ sym (no-level (slice_get values n))
  | Some l ↦ λ e. (let h = past-end levels n l e in ap (λ z. paired z (Some l)) (same n (omega arith)))
] refl

pub prefix-gets : {V : Type 0} (values values2 : List V) → take (length values) values2 ≡ values → (n : ℕ) → n < length values → slice_get values2 n ≡ slice_get values n
prefix-gets values values2 prefix n h = sym (get-take values2 (length values) n h) ∙ ap (λ z. slice_get z n) prefix

pub cut-gets : {V : Type 0} (values values2 cut : List V) (k : ℕ) → k ≡ length values → take (length values) values2 ≡ values → cut ≡ take k values2 → (n : ℕ) → n < length values → slice_get cut n ≡ slice_get values n
cut-gets values values2 cut k len prefix is n h = ap (λ z. slice_get z n) (is ∙ ap (λ z. take z values2) len ∙ prefix)

pub cut-levels : (levels levels2 cut : List (Option ℕ)) (k : ℕ) → k ≡ length levels → ((n : ℕ) → get_or levels2 n None ≡ get_or levels n None) → cut ≡ take k levels2 → (n : ℕ) → get_or cut n None ≡ get_or levels n None
cut-levels levels levels2 cut k len same is n = ap (λ z. get_or z n None) is ∙ elim (cases_lt n k) as (λ _. get_or (take k levels2) n None ≡ get_or levels n None) [
  | inl h ↦ get_or-take k levels2 n None h ∙ same n
  | inr h ↦ get_or_past (take k levels2) n None (let e = length-take k levels2 in omega arith) ∙ sym (get_or_past levels n None (omega arith))
]

-- ---- what is read

inside-some : {A : Type 0} (xs : List A) (n : ℕ) → n < length xs → (a : A) × (slice_get xs n ≡ Some a)
inside-some [] n h = absurd (omega arith)
inside-some (x ∷ xs) zero h = (x, refl)
inside-some (x ∷ xs) (suc n) h = inside-some xs n (omega arith)

module _ {V : Type 0} (values : List V) (levels : List (Option ℕ)) (attached : Bool) (full : attached ≡ true → length values ≡ length levels) (empty : attached ≡ false → (n : ℕ) → get_or levels n None ≡ None) where
  -- where there is a level there is a value
  valued : (n l : ℕ) → get_or levels n None ≡ Some l → (v : V) × (slice_get values n ≡ Some v)
  valued n l e = elim attached as (λ b. (b ≡ true → length values ≡ length levels) → (b ≡ false → (n : ℕ) → get_or levels n None ≡ None) → (v : V) × (slice_get values n ≡ Some v)) [
    | true ↦ λ f m. (let len = f refl in let h = past-end levels n l e in inside-some values n (omega arith))
    | false ↦ λ f m. (let z : None ≡ Some l = sym (m refl n) ∙ e in cc)
  ] full empty

  pub level-kept : (n : ℕ) → get_or levels n None ≡ option_map (λ (a : V × ℕ). a.1) (kept_at values levels n)
  unfolding kept_at
  level-kept n = elim (get_or levels n None) as (λ o. (get_or levels n None ≡ o) → o ≡ option_map (λ (a : V × ℕ). a.1) (paired (slice_get values n) o)) [
    | None ↦ λ e. ap (option_map (λ (a : V × ℕ). a.1)) (sym (no-level (slice_get values n)))
    | Some l ↦ λ e. (let v = valued n l e in ap (λ o. option_map (λ (a : V × ℕ). a.1) (paired o (Some l))) (sym v.1))
  ] refl

  pub value-kept : (n l : ℕ) → get_or levels n None ≡ Some l → slice_get values n ≡ option_map (λ (a : V × ℕ). a.0) (kept_at values levels n)
  unfolding kept_at
  value-kept n l e = let v = valued n l e in v.1 ∙ (λ i. option_map (λ (a : V × ℕ). a.0) (paired (sym v.1 i) (sym e i)))

pub none-kept : {V : Type 0} (values : List V) (levels : List (Option ℕ)) (n : ℕ) → get_or levels n None ≡ None → kept_at values levels n ≡ None
unfolding kept_at
none-kept values levels n e = ap (paired (slice_get values n)) e ∙ no-level (slice_get values n)

-- where no value is kept, no level is
pub same-kept : {V : Type 0} (values : List V) (levels levels2 : List (Option ℕ)) → ((n : ℕ) → get_or levels2 n None ≡ get_or levels n None) → (n : ℕ) → kept_at values levels2 n ≡ kept_at values levels n
unfolding kept_at
same-kept values levels levels2 same n = ap (paired (slice_get values n)) (same n)

-- ---- heights

pub kept-small : {V : Type 0} (eq : V → V → Bool) (first : ℕ → V) (gives : ℕ → GateValue → List (Signal × V) → V) (N : NetworkValue) → Acyclic N → (values : List V) (levels : List (Option ℕ)) → IsKept eq first gives N values levels → (top : ℕ) → ((n : ℕ) → level N n ≤ top) → (n : ℕ) → height levels n ≤ top
kept-small eq first gives N acyclic values levels kept top low n =
    let is = sym (answer-level (first 0) values levels n) ∙ eqb-is _ _ (and-right (eq (answer (first 0) values levels n).0 (scratch first gives N n).0) _ (kept n)) ∙ ap (λ (p : _ × ℕ). p.1) (pair-over N (rule_step first gives) (first 0) acyclic n) in
    let h = low n in
    omega arith
