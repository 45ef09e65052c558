-- The lists that links list are those that they lead through.
use Rattle.std.proofs.Common.{◌≡◌, ℕ, zero, suc, ◌<◌, ◌≤◌, true, false, true≢false, ◌||◌, eqb, List, [], ◌∷◌, map, length, get_or, slice_get, Option, None, Some, refl, sym, ap, ◌∙◌, inl, inr, arith}
use Rattle.std.specs.List.{list_any, IsDistinct, AllByRecursion}
use Rattle.std.proofs.lemmas.Bool.Decides.{eqb_tells}
use Rattle.std.proofs.lemmas.Map.Steps.{length-le_from_distinct_below}
use Rattle.lnet_chains.specs.Lists.{Within, Distinct}
use Rattle.lnet_chains.specs.Links.{Links, at, IsChain, listed, lists_of, AreChains}

-- ---- distinct numbers are few

any-within : (x : ℕ) (xs : List ℕ) → list_any (eqb x) xs ≡ true → Within x xs
any-within x [] e = absurd (true≢false (sym e))
any-within x (y ∷ ys) e = elim (eqb_tells x y) as (λ _. Within x (y ∷ ys)) [
  | inl p ↦ inl p.1
  | inr p ↦ inr (any-within x ys (sym (ap (λ b. b || list_any (eqb x) ys) p.0) ∙ e))
]

all-apart : (x : ℕ) (xs : List ℕ) → (Within x xs → ⊥) → AllByRecursion (λ y. eqb x y ≡ false) xs
all-apart x [] out = tt
all-apart x (y ∷ ys) out = (
  elim (eqb_tells x y) as (λ _. eqb x y ≡ false) [ inl p ↦ absurd (out (inl p.1)) | inr p ↦ p.0 ],
  all-apart x ys (λ i. out (inr i)),
)

distinct-is : (xs : List ℕ) → Distinct xs → IsDistinct eqb xs
unfolding IsDistinct
distinct-is [] differ = tt
distinct-is (x ∷ xs) differ = (all-apart x xs differ.0, distinct-is xs differ.1)

-- distinct numbers below n are at most n
distinct-few : (xs : List ℕ) (n : ℕ) → Distinct xs → ((x : ℕ) → Within x xs → x < n) → length xs ≤ n
distinct-few xs n differ below = length-le_from_distinct_below xs n (distinct-is xs differ) (λ x e. below x (any-within x xs e))

-- ---- the links list what they lead through

module _ (next prev : Links) where
  -- the places that are listed are those of the chain
  listed-chain : (before head : Option ℕ) (xs : List ℕ) (most : ℕ)
      → IsChain next prev before head xs → length xs ≤ most → listed next head most ≡ xs
  listed-chain before head [] zero chain short = refl
  listed-chain before head [] (suc most) chain short = ap (λ h. listed next h (suc most)) chain
  listed-chain before head (x ∷ xs) zero chain short = absurd (omega arith)
  listed-chain before head (x ∷ xs) (suc most) chain short =
      ap (λ h. listed next h (suc most)) chain.0 ∙ ap (λ ys. x ∷ ys) (listed-chain (Some x) (at next x) xs most chain.2 (omega arith))

  -- the first place of a chain
  pub first-place : (before head : Option ℕ) (xs : List ℕ) → IsChain next prev before head xs → head ≡ slice_get xs 0
  first-place before head [] chain = chain
  first-place before head (x ∷ xs) chain = chain.0

  -- the place after another of a chain
  pub next-place : (before head : Option ℕ) (xs : List ℕ) (i place : ℕ)
      → IsChain next prev before head xs → slice_get xs i ≡ Some place → at next place ≡ slice_get xs (suc i)
  next-place before head [] i place chain e = let none : None ≡ Some place = e in cc
  next-place before head (x ∷ xs) zero place chain e =
      let here : Some x ≡ Some place = e in
      let same : x ≡ place = cc in
      ap (at next) (sym same) ∙ first-place (Some x) (at next x) xs chain.2
  next-place before head (x ∷ xs) (suc i) place chain e = next-place (Some x) (at next x) xs i place chain.2 e

-- what is made of each first is each list
map-firsts : (f : Option ℕ → List ℕ) (firsts : Links) (lists : List (List ℕ))
    → length lists ≡ length firsts → ((n : ℕ) → f (at firsts n) ≡ get_or lists n []) → map f firsts ≡ lists
map-firsts f [] [] len each = refl
map-firsts f [] (xs ∷ lists) len each = absurd (omega arith)
map-firsts f (first ∷ firsts) [] len each = absurd (omega arith)
map-firsts f (first ∷ firsts) (xs ∷ lists) len each =
    let here : f first ≡ xs = each 0 in
    let rest : map f firsts ≡ lists = map-firsts f firsts lists (omega arith) (λ n. each (suc n)) in
    ap (λ v. v ∷ map f firsts) here ∙ ap (λ v. xs ∷ v) rest

pub lists-are : (firsts next prev : Links) (lists : List (List ℕ)) → AreChains firsts next prev lists → lists_of firsts next ≡ lists
unfolding lists_of
lists-are firsts next prev lists chains =
    let few = λ (n : ℕ). distinct-few (get_or lists n []) (length next) (chains.places.distinct n) (chains.places.inside n) in
    map-firsts (λ first. listed next first (length next)) firsts lists chains.nodes
    (λ n. listed-chain next prev None (at firsts n) (get_or lists n []) (length next) (chains.linked n) (few n))
