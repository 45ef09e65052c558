-- A cursor over a list of places, and the slots whose places they are.
use Rattle.std.proofs.Common.{◌≡◌, ℕ, zero, suc, ◌+◌, ◌*◌, ◌<◌, ◌/◌, ◌%◌, cond, eqb, List, [], ◌∷◌, map, length, Option, None, Some, slice_get, refl, sym, ap, subst, ◌∙◌, inl, inr, arith}
use Rattle.std.proofs.lemmas.Bool.Decides.{eqb_tells}
use Rattle.lnet_model.specs.Networks.{NetworkValue, Constant, Input, IsGate, entry_at, fanins_of}
use Rattle.lnet_model.specs.Along.{at_entry}
use Rattle.lnet_model.specs.Dags.{IsStored}
use Rattle.lnet_model.specs.Fanouts.{fan, references}
use Rattle.lnet_model.proofs.References.{takes-six}
use Rattle.lnet_chains.specs.Lists.{ChainsValue, Within, Distinct, list_of}
use Rattle.lnet_store.specs.StoreValues.{IsOneOf}
use Rattle.lnet_store.specs.Linked.{NamesNode, IsReading, AreLinked, place}
use Rattle.lnet_store.specs.Cursors.{places_from, slot_at, still}
use Rattle.lnet_store.proofs.ChainSteps.{names-within}
use Rattle.lnet_store.proofs.FanMembers.{fan-reads}

-- from its first place on it is the whole list
pub from-first : (xs : List ℕ) → places_from (slice_get xs 0) xs ≡ xs
from-first [] = refl
from-first (x ∷ xs) = elim (eqb_tells x x) as (λ _. cond (eqb x x) (x ∷ xs) (places_from (Some x) xs) ≡ x ∷ xs) [
  | inl e ↦ ap (λ b. cond b (x ∷ xs) (places_from (Some x) xs)) e.0
  | inr e ↦ absurd (e.1 refl)
]

-- where a place stands
pub stands-at : (xs : List ℕ) (p : ℕ) → Within p xs → (i : ℕ) × (slice_get xs i ≡ Some p)
stands-at [] p h = absurd h
stands-at (x ∷ xs) p (inl e) = (0, ap (λ z. Some z) (sym e))
stands-at (x ∷ xs) p (inr h) = let t = stands-at xs p h in (suc t.0, t.1)

pub at-within : (xs : List ℕ) (i p : ℕ) → slice_get xs i ≡ Some p → Within p xs
at-within [] i p e = cc
at-within (x ∷ xs) zero p e = inl (let z : x ≡ p = cc in sym z)
at-within (x ∷ xs) (suc i) p e = inr (at-within xs i p e)

-- one place further
pub from-next : (xs : List ℕ) (i p : ℕ) → Distinct xs → slice_get xs i ≡ Some p → places_from (Some p) xs ≡ p ∷ places_from (slice_get xs (i + 1)) xs
from-next [] i p D e = cc
from-next (x ∷ xs) zero p D e =
    let is : x ≡ p = cc in
    elim (eqb_tells x p) as (λ _. cond (eqb x p) (x ∷ xs) (places_from (Some p) xs) ≡ p ∷ places_from (slice_get (x ∷ xs) (0 + 1)) (x ∷ xs)) [
      | inl t ↦ ap (λ b. cond b (x ∷ xs) (places_from (Some p) xs)) t.0 ∙ ap (λ z. z ∷ xs) is ∙ ap (λ zs. p ∷ zs) (sym (past-first x xs D))
      | inr t ↦ absurd (t.1 is)
    ]
  where
    past-first : (x : ℕ) (xs : List ℕ) → Distinct (x ∷ xs) → places_from (slice_get xs 0) (x ∷ xs) ≡ xs
    past-first x [] D = refl
    past-first x (y ∷ ys) D = elim (eqb_tells x y) as (λ _. cond (eqb x y) (x ∷ y ∷ ys) (places_from (Some y) (y ∷ ys)) ≡ y ∷ ys) [
      | inl t ↦ absurd (D.0 (inl t.1))
      | inr t ↦ ap (λ b. cond b (x ∷ y ∷ ys) (places_from (Some y) (y ∷ ys))) t.0 ∙ from-first (y ∷ ys)
    ]
from-next (x ∷ xs) (suc i) p D e =
    let step : suc (i + 1) ≡ suc i + 1 = omega arith in
    subst (λ k. cond (eqb x p) (x ∷ xs) (places_from (Some p) xs) ≡ p ∷ places_from (slice_get (x ∷ xs) k) (x ∷ xs)) step
    (elim (eqb_tells x p) as (λ _. cond (eqb x p) (x ∷ xs) (places_from (Some p) xs) ≡ p ∷ places_from (slice_get xs (i + 1)) (x ∷ xs)) [
      | inl t ↦ absurd (D.0 (subst (λ z. Within z xs) (sym t.1) (at-within xs i p e)))
      | inr t ↦ ap (λ b. cond b (x ∷ xs) (places_from (Some p) xs)) t.0 ∙ from-next xs i p D.1 e ∙ ap (λ zs. p ∷ zs) (sym (past x xs (slice_get xs (i + 1)) D (λ q h. at-within xs (i + 1) q h)))
    ])
  where
    past : (x : ℕ) (xs : List ℕ) (o : Option ℕ) → Distinct (x ∷ xs) → ((q : ℕ) → o ≡ Some q → Within q xs) → places_from o (x ∷ xs) ≡ places_from o xs
    past x xs None D in_it = refl
    past x xs (Some q) D in_it = elim (eqb_tells x q) as (λ _. cond (eqb x q) (x ∷ xs) (places_from (Some q) xs) ≡ places_from (Some q) xs) [
      | inl t ↦ absurd (D.0 (subst (λ z. Within z xs) (sym t.1) (in_it q refl)))
      | inr t ↦ ap (λ b. cond b (x ∷ xs) (places_from (Some q) xs)) t.0
    ]

-- there is always something to come where the cursor stands at a place
pub still-some : (xs : List ℕ) (i p : ℕ) → Distinct xs → slice_get xs i ≡ Some p → still (Some p) xs ≡ slot_at p ∷ still (slice_get xs (i + 1)) xs
still-some xs i p D e = ap (map slot_at) (from-next xs i p D e)

-- ---- the slots of the places

map-length : (xs : List ℕ) → length (map slot_at xs) ≡ length xs
map-length [] = refl
map-length (x ∷ xs) = ap suc (map-length xs)

in-slots : (p : ℕ) (xs : List ℕ) → Within p xs → IsOneOf (slot_at p) (map slot_at xs)
in-slots p [] h = absurd h
in-slots p (x ∷ xs) (inl e) = inl (ap slot_at e)
in-slots p (x ∷ xs) (inr h) = inr (in-slots p xs h)

from-slots : (g j : ℕ) (xs : List ℕ) → IsOneOf (g, j) (map slot_at xs) → (p : ℕ) × Within p xs × (g ≡ p / 6) × (j ≡ p % 6)
from-slots g j [] h = absurd h
from-slots g j (x ∷ xs) (inl e) = (x, inl refl, ap (λ (q : ℕ × ℕ). q.0) e, ap (λ (q : ℕ × ℕ). q.1) e)
from-slots g j (x ∷ xs) (inr h) = let t = from-slots g j xs h in (t.0, inr t.1, t.2, t.3)

place-of : (p : ℕ) → place (p / 6) (p % 6) ≡ p
place-of p = omega arith

slot-of : (g j : ℕ) → j < 6 → slot_at (place g j) ≡ (g, j)
slot-of g j lt =
    let a : (6 * g + j) / 6 ≡ g = omega arith in
    let b : (6 * g + j) % 6 ≡ j = omega arith in
    ap (λ x. (x, (6 * g + j) % 6)) a ∙ ap (λ y. (g, y)) b

-- a slot that names a node is one of six
slot-six : (N : NetworkValue) (m g j : ℕ) → IsStored N → IsReading N m g j → j < 6
slot-six N m g j stored r = elim (entry_at N g) as (λ o. entry_at N g ≡ o → NamesNode m (slice_get (at_entry [] fanins_of o) j) → j < 6) [
  | None ↦ λ e h. absurd h
  | Some x ↦ elim x as (λ x. entry_at N g ≡ Some x → NamesNode m (slice_get (at_entry [] fanins_of (Some x)) j) → j < 6) [
    | Constant ↦ λ e h. absurd h
    | Input k ↦ λ e h. absurd h
    | IsGate gate ↦ λ e h. (let w = names-within m j gate.fanins h in let s = takes-six gate.op (length gate.fanins) (stored.dag.arities g gate e) in omega arith)
  ]
] refl r

module _ (c : ChainsValue) (room : ℕ) (N : NetworkValue) (n : ℕ) (L : AreLinked c room N) (stored : IsStored N) where
  pub linked-len : length (still (slice_get (list_of c n) 0) (list_of c n)) ≡ length (fan N n)
  unfolding references
  linked-len =
      let a = map-length (places_from (slice_get (list_of c n) 0) (list_of c n)) in
      let b = ap (λ (xs : List ℕ). length xs) (from-first (list_of c n)) in
      let d = L.counted n in
      omega arith

  pub linked-each : (p : ℕ × ℕ) → IsOneOf p (still (slice_get (list_of c n) 0) (list_of c n)) → IsOneOf p (fan N n)
  linked-each p h =
      let t = from-slots p.0 p.1 (list_of c n) (subst (λ xs. IsOneOf p (map slot_at xs)) (from-first (list_of c n)) h) in
      let six : p.1 < 6 = (let e = t.3 in omega arith) in
      let at : place p.0 p.1 ≡ t.0 = (let a = t.2 in let b = t.3 in omega arith) in
      (fan-reads N n p.0 p.1).1 ((L.named n p.0 p.1 six).0 (subst (λ x. Within x (list_of c n)) (sym at) t.1))

  pub linked-all : (p : ℕ × ℕ) → IsOneOf p (fan N n) → IsOneOf p (still (slice_get (list_of c n) 0) (list_of c n))
  linked-all p h =
      let r = (fan-reads N n p.0 p.1).0 h in
      let six = slot-six N n p.0 p.1 stored r in
      subst (λ xs. IsOneOf p (map slot_at xs)) (sym (from-first (list_of c n)))
      (subst (λ q. IsOneOf q (map slot_at (list_of c n))) (slot-of p.0 p.1 six) (in-slots (place p.0 p.1) (list_of c n) ((L.named n p.0 p.1 six).1 r)))
