-- How the slots are counted, and which are free, with each change.
use Rattle.std.proofs.Common.{
  ◌≢◌,
  ◌-◌,
  max,
  inl,
  inr,
  length-set,
  length-append,
  ◌≡◌,
  ℕ,
  zero,
  suc,
  ◌+◌,
  ◌<◌,
  ◌≤◌,
  cond,
  is_some,
  lit≤,
  Bool,
  true,
  false,
  List,
  [],
  ◌∷◌,
  ◌++◌,
  map,
  length,
  replicate,
  IsSome,
  Option,
  None,
  Some,
  get_or,
  refl,
  sym,
  ap,
  subst,
  ◌∙◌,
  arith,
}
use Rattle.std.proofs.Math.ListN.{set}
use Rattle.std.proofs.lemmas.List.{length-replicate}
use Rattle.std.proofs.lemmas.Cmp.{nat_cmp_total}
use Rattle.std.specs.Ordering.{nat_cmp}
use Rattle.std.specs.FinMap.{FinMap, get, len, len-insert, len-remove, len-empty, get-empty, empty, insert}
use Rattle.std.proofs.lemmas.Bool.{cases_lt}
use Rattle.std.proofs.lemmas.Bool.Decides.{eqb_tells}
use Rattle.lnet_model.specs.Dags.{NUMBERS}
use Rattle.lnet_model.proofs.Map.{len_positive, insert_here, insert_apart, remove_here, remove_apart}
use Rattle.lnet_model.specs.Networks.{Entry, Constant, gate_in}
use Rattle.lnet_model.specs.Slots.{nodes_of}
use Rattle.lnet_store.specs.Held.{entry_of, entry_in, is_empty, held, IsCounted, IsFitting}
use Rattle.lnet_store.specs.declared.slots.Slot.{Slot}
use Rattle.lnet_store.specs.declared.slots.Slot.TheVariants as slot
use Rattle.lnet_store.proofs.FreeSlots.{frees-set, frees-grown, frees-there, set-same, in-some}
use Rattle.lnet_store.proofs.SlotLemmas.{get-held, held-set, held-clear, held-inside, held-grown, some-in, all-live}

-- ---- how the numbers are counted

pub numbers-fit : (slots : List (Option Slot)) (live numbers : ℕ) (free : List Bool) → IsCounted slots live numbers free → numbers ≤ length slots
numbers-fit slots live zero floor c = omega arith
numbers-fit slots live (suc n) floor c = let e : n + 1 ≡ suc n = omega arith in let h = held-inside slots n (c.top n e) in omega arith

pub held-first : held (Some slot.Constant ∷ []) ≡ insert empty 0 Constant
unfolding held nodes_of
held-first = refl

count-first : len (held (Some slot.Constant ∷ [])) ≡ 1
count-first =
    let none = ap (λ o. cond (is_some o) (len (empty {K = ℕ} {X = Entry} {R = nat_cmp})) (len (empty {K = ℕ} {X = Entry} {R = nat_cmp}) + 1)) (get-empty {X = Entry} nat_cmp 0) in
    let zero_len = len-empty {K = ℕ} nat_cmp Entry in
    ap len held-first ∙ len-insert nat_cmp_total (empty {K = ℕ} {X = Entry} {R = nat_cmp}) 0 Constant ∙ none ∙ ap (λ z. z + 1) zero_len

here : IsSome (get (held (Some slot.Constant ∷ [])) 0)
here = subst IsSome (sym (get-held (Some slot.Constant ∷ []) 0)) refl

pub counted-first : IsCounted (Some slot.Constant ∷ []) 1 1 (false ∷ [])
counted-first = record {
  counted = sym count-first;
  below = λ n h. held-inside (Some slot.Constant ∷ []) n h;
  top = λ n e. subst (λ z. IsSome (get (held (Some slot.Constant ∷ [])) z)) (let z : 0 ≡ n = omega arith in z) here;
  frees = refl;
  fits = omega arith;
  within = lit≤ tt;
}

module _ (slots : List (Option Slot)) (live numbers : ℕ) (free : List Bool) (c : IsCounted slots live numbers free) (n : ℕ) (s : Slot) (unheld : get (held slots) n ≡ None)
    (least : (m : ℕ) → m < n → IsSome (get (held slots) m)) (space : len (held slots) < length slots) where
  pub free-inside : n < length slots
  free-inside = let h = all-live (held slots) n least in omega arith

  filled-here : IsSome (get (held (set slots n (Some s))) n)
  filled-here = subst IsSome (sym (ap (λ m. get m n) (held-set slots n s free-inside) ∙ insert_here (held slots) n (entry_of s))) refl

  filled-apart : (m : ℕ) → m ≢ n → get (held (set slots n (Some s))) m ≡ get (held slots) m
  filled-apart m ne = ap (λ z. get z m) (held-set slots n s free-inside) ∙ insert_apart (held slots) n (entry_of s) m ne

  filled-live : (m : ℕ) → IsSome (get (held slots) m) → IsSome (get (held (set slots n (Some s))) m)
  filled-live m h = elim (eqb_tells m n) as (λ _. IsSome (get (held (set slots n (Some s))) m)) [
    | inl p ↦ subst (λ z. IsSome (get (held (set slots n (Some s))) z)) (sym p.1) filled-here
    | inr p ↦ subst IsSome (sym (filled-apart m p.1)) h
  ]

  pub counted-filled : IsCounted (set slots n (Some s)) (live + 1) (max numbers (n + 1)) (set free n false)
  counted-filled =
      let same = length-set slots n (Some s) in
      let more = ap len (held-set slots n s free-inside) ∙ len-insert nat_cmp_total (held slots) n (entry_of s) ∙ ap (λ o. cond (is_some o) (len (held slots)) (len (held slots) + 1)) unheld in
      let old = c.counted in
      let cap = c.within in
      record {
        counted = omega arith;
        below = λ m h. elim (eqb_tells m n) as (λ _. m < max numbers (n + 1)) [
          | inl p ↦ (let e = p.1 in omega arith)
          | inr p ↦ (let lt = c.below m (subst IsSome (filled-apart m p.1) h) in omega arith)
        ];
        top = λ m e. elim (eqb_tells m n) as (λ _. IsSome (get (held (set slots n (Some s))) m)) [
          | inl p ↦ subst (λ z. IsSome (get (held (set slots n (Some s))) z)) (sym p.1) filled-here
          | inr p ↦ filled-live m (c.top m (let ne = p.1 in omega arith))
        ];
        frees = ap (λ fs. set fs n false) c.frees ∙ sym (frees-set slots n (Some s));
        fits = omega arith;
        within = subst (λ z. z ≤ NUMBERS) (sym same) cap;
      }

-- ---- more slots

pub counted-grown : (slots : List (Option Slot)) (live numbers : ℕ) (free : List Bool) (k : ℕ) → IsCounted slots live numbers free → length slots + k ≤ NUMBERS →
    IsCounted (slots ++ replicate k None) live numbers (free ++ replicate k true)
counted-grown slots live numbers free k c le =
    let e = held-grown slots k in
    let more = length-append slots (replicate k None) in
    let reps = length-replicate {A = Option Slot} k None in
    let old = c.fits in
    record {
      counted = c.counted ∙ ap len (sym e);
      below = λ n h. c.below n (subst (λ m. IsSome (get m n)) e h);
      top = λ n h. subst (λ m. IsSome (get m n)) (sym e) (c.top n h);
      frees = ap (λ fs. fs ++ replicate k true) c.frees ∙ sym (frees-grown slots k);
      fits = omega arith;
      within = omega arith;
    }

pub fitting : (slots : List (Option Slot)) (live numbers : ℕ) (free : List Bool) → IsCounted slots live numbers free → IsFitting (record { nodes = held slots; room = length slots })
fitting slots live numbers free c = record {
  within = held-inside slots;
  few = (let e = c.counted in let f = c.fits in omega arith);
  limit = c.within;
}

-- ---- a live number's slot, filled anew or emptied

module _ (slots : List (Option Slot)) (live numbers : ℕ) (free : List Bool) (c : IsCounted slots live numbers free) (n : ℕ) (there : IsSome (get (held slots) n)) where
  pub there-inside : n < length slots
  there-inside = held-inside slots n there

  there-here : IsSome (get_or slots n None)
  there-here = in-some (get_or slots n None) (subst IsSome (get-held slots n) there)

  set-live : (s : Slot) (m : ℕ) → IsSome (get (held slots) m) → IsSome (get (held (set slots n (Some s))) m)
  set-live s m h = elim (eqb_tells m n) as (λ _. IsSome (get (held (set slots n (Some s))) m)) [
    | inl p ↦ subst (λ z. IsSome (get (held (set slots n (Some s))) z)) (sym p.1)
        (subst IsSome (sym (ap (λ m. get m n) (held-set slots n s there-inside) ∙ insert_here (held slots) n (entry_of s))) refl)
    | inr p ↦ subst IsSome (sym (ap (λ z. get z m) (held-set slots n s there-inside) ∙ insert_apart (held slots) n (entry_of s) m p.1)) h
  ]

  live-set : (s : Slot) (m : ℕ) → IsSome (get (held (set slots n (Some s))) m) → IsSome (get (held slots) m)
  live-set s m h = elim (eqb_tells m n) as (λ _. IsSome (get (held slots) m)) [
    | inl p ↦ subst (λ z. IsSome (get (held slots) z)) (sym p.1) there
    | inr p ↦ subst IsSome (ap (λ z. get z m) (held-set slots n s there-inside) ∙ insert_apart (held slots) n (entry_of s) m p.1) h
  ]

  pub counted-set : (s : Slot) → IsCounted (set slots n (Some s)) live numbers free
  counted-set s =
      let same = length-set slots n (Some s) in
      record {
        counted = c.counted ∙ sym (ap len (held-set slots n s there-inside) ∙ len-insert nat_cmp_total (held slots) n (entry_of s) ∙ ap (λ b. cond b (len (held slots)) (len (held slots) + 1)) there);
        below = λ m h. c.below m (live-set s m h);
        top = λ m e. set-live s m (c.top m e);
        frees = c.frees ∙ sym (frees-set slots n (Some s) ∙ set-same (map is_empty slots) n false (frees-there slots n there-here));
        fits = subst (λ z. live ≤ z) (sym same) c.fits;
        within = subst (λ z. z ≤ NUMBERS) (sym same) c.within;
      }

  pub some-live : 1 ≤ live
  some-live = let h = len_positive (held slots) n there in let e = c.counted in omega arith

  clear-apart : (m : ℕ) → m ≢ n → get (held (set slots n None)) m ≡ get (held slots) m
  clear-apart m ne = ap (λ z. get z m) (held-clear slots n there-inside) ∙ remove_apart (held slots) n m ne

  clear-here : get (held (set slots n None)) n ≡ None
  clear-here = ap (λ z. get z n) (held-clear slots n there-inside) ∙ remove_here (held slots) n

  live-cleared : (m : ℕ) → IsSome (get (held (set slots n None)) m) → IsSome (get (held slots) m)
  live-cleared m h = elim (eqb_tells m n) as (λ _. IsSome (get (held slots) m)) [
    | inl p ↦ subst (λ z. IsSome (get (held slots) z)) (sym p.1) there
    | inr p ↦ subst IsSome (clear-apart m p.1) h
  ]

  pub counted-cleared : (top : ℕ) → ((m : ℕ) → top ≤ m → m < numbers → get_or (set slots n None) m None ≡ None) → ((m : ℕ) → m + 1 ≡ top → IsSome (get_or (set slots n None) m None)) →
      IsCounted (set slots n None) (live - 1) top (set free n true)
  counted-cleared top past here =
      let same = length-set slots n None in
      let old = c.counted in
      let cap = c.fits in
      let fewer = ap len (held-clear slots n there-inside) ∙ len-remove nat_cmp_total (held slots) n ∙ ap (λ b. cond b (len (held slots) - 1) (len (held slots))) there in
      record {
        counted = omega arith;
        below = λ m h. elim (cases_lt m top) as (λ _. m < top) [
          | inl lt ↦ lt
          | inr ge ↦ (
              let none = get-held (set slots n None) m ∙ ap entry_in (past m ge (c.below m (live-cleared m h))) in
              absurd (let z : false ≡ true = subst IsSome none h in cc)
              )
        ];
        top = λ m e. subst IsSome (sym (get-held (set slots n None) m)) (some-in (get_or (set slots n None) m None) (here m e));
        frees = ap (λ fs. set fs n true) c.frees ∙ sym (frees-set slots n None);
        fits = omega arith;
        within = subst (λ z. z ≤ NUMBERS) (sym same) c.within;
      }

pub gate-live : (m : FinMap nat_cmp Entry) (n : ℕ) → IsSome (gate_in (get m n)) → IsSome (get m n)
gate-live m n h = elim (get m n) as (λ o. IsSome (gate_in o) → IsSome o) [ None ↦ λ k. k | Some e ↦ λ k. refl ] h
