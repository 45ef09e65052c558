-- Members of lists that are appended, mapped, made flat or filtered.
use Rattle.std.proofs.Common.{◌≡◌, Bool, true, false, cond, List, [], ◌∷◌, ◌++◌, map, refl, sym, ap, subst, inl, inr, true≢false}
use Rattle.std.specs.Prelude.{◌⊎◌}
use Rattle.std.specs.List.{list_any, filter, flat_map}
use Rattle.lnet_cuts.specs.Candidates.{Mem}
use Rattle.lnet_cuts.proofs.LeafSets.{or-true, or-left, or-right}

pub tested : (b : Bool) → (b ≡ true) ⊎ (b ≡ false)
tested true = inl refl
tested false = inr refl

module _ {Y : Type 0} where
  pub append-left : (x : Y) (xs ys : List Y) → Mem x xs → Mem x (xs ++ ys)
  append-left x [] ys i = absurd i
  append-left x (y ∷ xs) ys (inl e) = inl e
  append-left x (y ∷ xs) ys (inr i) = inr (append-left x xs ys i)

  pub append-right : (x : Y) (xs ys : List Y) → Mem x ys → Mem x (xs ++ ys)
  append-right x [] ys i = i
  append-right x (y ∷ xs) ys i = inr (append-right x xs ys i)

  pub append-from : (x : Y) (xs ys : List Y) → Mem x (xs ++ ys) → Mem x xs ⊎ Mem x ys
  append-from x [] ys i = inr i
  append-from x (y ∷ xs) ys (inl e) = inl (inl e)
  append-from x (y ∷ xs) ys (inr i) = elim (append-from x xs ys i) as (λ _. Mem x (y ∷ xs) ⊎ Mem x ys) [ inl a ↦ inl (inr a) | inr b ↦ inr b ]

module _ {X Y : Type 0} where
  pub map-in : (f : X → Y) (x : X) (xs : List X) → Mem x xs → Mem (f x) (map f xs)
  map-in f x [] i = absurd i
  map-in f x (y ∷ xs) (inl e) = inl (ap f e)
  map-in f x (y ∷ xs) (inr i) = inr (map-in f x xs i)

  pub map-from : (f : X → Y) (y : Y) (xs : List X) → Mem y (map f xs) → (x : X) × Mem x xs × (y ≡ f x)
  map-from f y [] i = absurd i
  map-from f y (x ∷ xs) (inl e) = (x, inl refl, e)
  map-from f y (x ∷ xs) (inr i) = let t = map-from f y xs i in (t.0, inr t.1, t.2)

  pub flat-in : (f : X → List Y) (y : Y) (x : X) (xs : List X) → Mem x xs → Mem y (f x) → Mem y (flat_map f xs)
  flat-in f y x [] i j = absurd i
  flat-in f y x (z ∷ xs) (inl e) j = append-left y (f z) (flat_map f xs) (subst (λ w. Mem y (f w)) e j)
  flat-in f y x (z ∷ xs) (inr i) j = append-right y (f z) (flat_map f xs) (flat-in f y x xs i j)

  pub flat-from : (f : X → List Y) (y : Y) (xs : List X) → Mem y (flat_map f xs) → (x : X) × Mem x xs × Mem y (f x)
  flat-from f y [] i = absurd i
  flat-from f y (x ∷ xs) i = elim (append-from y (f x) (flat_map f xs) i) as (λ _. (z : X) × Mem z (x ∷ xs) × Mem y (f z)) [
    | inl j ↦ (x, inl refl, j)
    | inr j ↦ (let t = flat-from f y xs j in (t.0, inr t.1, t.2))
  ]

module _ {X : Type 0} (p : X → Bool) where
  pub filter-in : (x : X) (xs : List X) → Mem x xs → p x ≡ true → Mem x (filter p xs)
  filter-in x [] i e = absurd i
  filter-in x (y ∷ xs) (inl s) e = subst (λ b. Mem x (cond b (y ∷ filter p xs) (filter p xs))) (sym (subst (λ z. p z ≡ true) s e)) (inl s)
  filter-in x (y ∷ xs) (inr i) e = elim (tested (p y)) as (λ _. Mem x (filter p (y ∷ xs))) [
    | inl h ↦ subst (λ b. Mem x (cond b (y ∷ filter p xs) (filter p xs))) (sym h) (inr (filter-in x xs i e))
    | inr h ↦ subst (λ b. Mem x (cond b (y ∷ filter p xs) (filter p xs))) (sym h) (filter-in x xs i e)
  ]

  pub filter-from : (x : X) (xs : List X) → Mem x (filter p xs) → Mem x xs × (p x ≡ true)
  filter-from x [] i = absurd i
  filter-from x (y ∷ xs) i = elim (tested (p y)) as (λ _. Mem x (y ∷ xs) × (p x ≡ true)) [
    | inl e ↦ elim (subst (λ b. Mem x (cond b (y ∷ filter p xs) (filter p xs))) e i) as (λ _. Mem x (y ∷ xs) × (p x ≡ true)) [
      | inl s ↦ (inl s, subst (λ z. p z ≡ true) (sym s) e)
      | inr j ↦ (let t = filter-from x xs j in (inr t.0, t.1))
    ]
    | inr e ↦ (let t = filter-from x xs (subst (λ b. Mem x (cond b (y ∷ filter p xs) (filter p xs))) e i) in (inr t.0, t.1))
  ]

  pub any-in : (xs : List X) (x : X) → Mem x xs → p x ≡ true → list_any p xs ≡ true
  any-in [] x i e = absurd i
  any-in (y ∷ xs) x (inl s) e = or-left (p y) (list_any p xs) (subst (λ z. p z ≡ true) s e)
  any-in (y ∷ xs) x (inr i) e = or-right (p y) (list_any p xs) (any-in xs x i e)

  pub in-any : (xs : List X) → list_any p xs ≡ true → (x : X) × Mem x xs × (p x ≡ true)
  in-any [] e = absurd (true≢false (sym e))
  in-any (y ∷ xs) e = elim (or-true (p y) (list_any p xs) e) as (λ _. (x : X) × Mem x (y ∷ xs) × (p x ≡ true)) [
    | inl h ↦ (y, inl refl, h)
    | inr h ↦ (let t = in-any xs h in (t.0, inr t.1, t.2))
  ]
