-- One past the greatest live number, by a bound that is met.
use Rattle.std.proofs.Common.{◌≡◌, ℕ, zero, suc, ◌+◌, ◌<◌, ◌≤◌, max, true, false, ◌||◌, List, [], ◌∷◌, map, refl, sym, ap, subst, ◌∙◌, inl, inr, arith}
use Rattle.std.proofs.lemmas.Bool.Decides.{eqb_tells}
use Rattle.std.specs.List.{list_any}
use Rattle.std.specs.Ordering.{nat_cmp, eq_by_cmp}
use Rattle.std.specs.FinMap.{keys, contains_key-keys}
use Rattle.lnet_model.specs.Networks.{NetworkValue, IsLive, entry_at}
use Rattle.lnet_model.specs.Levels.{greatest}
use Rattle.lnet_model.specs.Dags.{AreBelow, numbers_of}
use Rattle.lnet_model.proofs.Map.{tied, apart}

listed-least : (q : ℕ) (xs : List ℕ) → list_any (eq_by_cmp nat_cmp q) xs ≡ true → q < greatest (map suc xs)
listed-least q [] h = let z : false ≡ true = h in cc
listed-least q (x ∷ xs) h = elim (eqb_tells q x) as (λ _. q < max (suc x) (greatest (map suc xs))) [
  | inl p ↦ let e = p.1 in omega arith
  | inr p ↦ let k = listed-least q xs (subst (λ b. (b || list_any (eq_by_cmp nat_cmp q) xs) ≡ true) (apart q x p.1) h) in omega arith
]

greatest-within : (xs : List ℕ) (r : ℕ) → ((q : ℕ) → list_any (eq_by_cmp nat_cmp q) xs ≡ true → q < r) → greatest (map suc xs) ≤ r
greatest-within [] r h = omega arith
greatest-within (x ∷ xs) r h =
    let here = h x (ap (λ b. b || list_any (eq_by_cmp nat_cmp x) xs) (tied x)) in
    let rest = greatest-within xs r (λ q i. h q (ap (λ b. eq_by_cmp nat_cmp q x || b) i ∙ elim (eq_by_cmp nat_cmp q x) as (λ b. (b || true) ≡ true) [ true ↦ refl | false ↦ refl ])) in
    omega arith

pub live-below-numbers : (N : NetworkValue) → AreBelow N (numbers_of N)
unfolding numbers_of entry_at
live-below-numbers N n live = listed-least n (keys N.nodes) (sym (contains_key-keys N.nodes n) ∙ live)

pub numbers-at-most : (N : NetworkValue) (r : ℕ) → AreBelow N r → numbers_of N ≤ r
unfolding numbers_of entry_at
numbers-at-most N r below = greatest-within (keys N.nodes) r (λ q i. below q (contains_key-keys N.nodes q ∙ i))

-- a bound below which its predecessor is live
pub numbers-by : (N : NetworkValue) (r : ℕ) → AreBelow N r → ((n : ℕ) → n + 1 ≡ r → IsLive N n) → r ≡ numbers_of N
numbers-by N zero below top = let h = numbers-at-most N zero below in omega arith
numbers-by N (suc n) below top =
    let e : n + 1 ≡ suc n = omega arith in
    let h = numbers-at-most N (suc n) below in
    let k = live-below-numbers N n (top n e) in
    omega arith
