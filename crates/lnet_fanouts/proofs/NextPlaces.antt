-- The pair after another one, by its place.
use Rattle.std.proofs.Common.{◌≡◌, ℕ, zero, suc, ◌/◌, ◌%◌, true, false, cond, ◌&&◌, ◌||◌, eqb, List, [], ◌∷◌, map, None, Some, slice_get, refl, sym, ap, ◌∙◌, inl, inr, arith}
use Rattle.std.specs.Prelude.{◌⊎◌, option_map}
use Rattle.std.specs.List.{list_any}
use Rattle.std.proofs.lemmas.Bool.Decides.{eqb_tells}
use Rattle.lnet_model.specs.Answers.{same_pair, follower}
use Rattle.lnet_chains.specs.Lists.{Within}
use Rattle.lnet_pools.specs.Ascending.{IsAscending}
use Rattle.lnet_store.specs.Cursors.{slot_at}
use Rattle.lnet_store.specs.Linked.{place}
use Rattle.lnet_store.proofs.Cursors.{at-within}

-- whether two pairs are one
pair-tells : (q p : ℕ × ℕ) → ((same_pair q p ≡ true) × (q ≡ p)) ⊎ ((same_pair q p ≡ false) × (q ≡ p → ⊥))
pair-tells q p = elim (eqb_tells q.0 p.0) as (λ _. ((same_pair q p ≡ true) × (q ≡ p)) ⊎ ((same_pair q p ≡ false) × (q ≡ p → ⊥))) [
  | inl a ↦ elim (eqb_tells q.1 p.1) as (λ _. ((same_pair q p ≡ true) × (q ≡ p)) ⊎ ((same_pair q p ≡ false) × (q ≡ p → ⊥))) [
    | inl b ↦ inl (ap (λ z. z && eqb q.1 p.1) a.0 ∙ b.0, (λ i. (a.1 i, b.1 i)))
    | inr b ↦ inr (ap (λ z. z && eqb q.1 p.1) a.0 ∙ b.0, λ e. b.1 (ap (λ (r : ℕ × ℕ). r.1) e))
  ]
  | inr a ↦ inr (ap (λ z. z && eqb q.1 p.1) a.0, λ e. a.1 (ap (λ (r : ℕ × ℕ). r.0) e))
]

-- a pair of the list is that of one of its places
pub listed-place : (p j : ℕ) (xs : List ℕ) → list_any (same_pair (p, j)) (map slot_at xs) ≡ true → Within (place p j) xs × (slot_at (place p j) ≡ (p, j))
listed-place p j [] e = let z : false ≡ true = e in cc
listed-place p j (x ∷ xs) e = elim (pair-tells (p, j) (slot_at x)) as (λ _. Within (place p j) (x ∷ xs) × (slot_at (place p j) ≡ (p, j))) [
  | inl h ↦ (
      let a : p ≡ x / 6 = ap (λ (r : ℕ × ℕ). r.0) h.1 in
      let b : j ≡ x % 6 = ap (λ (r : ℕ × ℕ). r.1) h.1 in
      let c : place p j ≡ x = omega arith in
      (inl c, ap slot_at c ∙ sym h.1)
      )
  | inr h ↦ (let t = listed-place p j xs (sym (ap (λ b. b || list_any (same_pair (p, j)) (map slot_at xs)) h.0) ∙ e) in (inr t.0, t.1))
]

get-map : (xs : List ℕ) (i : ℕ) → option_map slot_at (slice_get xs i) ≡ slice_get (map slot_at xs) i
get-map [] i = refl
get-map (x ∷ xs) zero = refl
get-map (x ∷ xs) (suc i) = get-map xs i

-- what follows the pair of the place at i is the pair of the place after it
pub next-follows : (xs : List ℕ) (i c : ℕ) → IsAscending xs → slice_get xs i ≡ Some c → option_map slot_at (slice_get xs (suc i)) ≡ follower (slot_at c) (map slot_at xs)
next-follows [] i c A e = let z : None ≡ Some c = e in cc
next-follows (x ∷ xs) zero c A e =
    let z : Some x ≡ Some c = e in
    let s : x ≡ c = cc in
    elim (pair-tells (slot_at x) (slot_at c)) as (λ _. option_map slot_at (slice_get xs 0) ≡ follower (slot_at c) (map slot_at (x ∷ xs))) [
      | inl h ↦ get-map xs 0 ∙ sym (ap (λ b. cond b (slice_get (map slot_at xs) 0) (follower (slot_at c) (map slot_at xs))) h.0)
      | inr h ↦ absurd (h.1 (ap slot_at s))
    ]
next-follows (x ∷ xs) (suc i) c A e = elim (pair-tells (slot_at x) (slot_at c)) as (λ _. option_map slot_at (slice_get xs (suc i)) ≡ follower (slot_at c) (map slot_at (x ∷ xs))) [
  | inl h ↦ (
      let lt = A.0 c (at-within xs i c e) in
      let a : x / 6 ≡ c / 6 = ap (λ (r : ℕ × ℕ). r.0) h.1 in
      let b : x % 6 ≡ c % 6 = ap (λ (r : ℕ × ℕ). r.1) h.1 in
      absurd (omega arith)
      )
  | inr h ↦ next-follows xs i c A.1 e ∙ sym (ap (λ b. cond b (slice_get (map slot_at xs) 0) (follower (slot_at c) (map slot_at xs))) h.0)
]

pub first-pair : (xs : List ℕ) → option_map slot_at (slice_get xs 0) ≡ slice_get (map slot_at xs) 0
first-pair xs = get-map xs 0
