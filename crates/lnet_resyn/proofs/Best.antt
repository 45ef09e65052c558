-- The best of candidates, list after list.
use Rattle.std.proofs.Common.{◌≡◌, ℕ, ◌+◌, ◌-◌, ◌≤◌, cond, List, [], ◌∷◌, ◌++◌, map, refl, sym, ap, ◌∙◌, arith}
use Rattle.std.specs.Prelude.{ltb}
use Rattle.std.specs.List.{range_with_len, flat_map}
use Rattle.std.proofs.lemmas.List.FromFn.{map-range_with_len_more}
use Rattle.lnet_resyn.specs.Majority.{best_of}

-- of one list after another
pub best-append : {A : Type 0} (score : A → ℕ) (b : A) (xs ys : List A) → best_of score b (xs ++ ys) ≡ best_of score (best_of score b xs) ys
unfolding best_of
best-append score b [] ys = refl
best-append score b (x ∷ xs) ys = best-append score (cond (ltb (score b) (score x)) x b) xs ys

-- one candidate more
pub best-map-more : {A : Type 0} (score : A → ℕ) (b : A) (f : ℕ → A) (a n j : ℕ) → a + n ≡ j → best_of score b (map f (range_with_len a (n + 1))) ≡ cond (ltb (score (best_of score b (map f (range_with_len a n)))) (score (f j))) (f j) (best_of score b (map f (range_with_len a n)))
unfolding best_of
best-map-more score b f a n j e = ap (best_of score b) (map-range_with_len_more f a n j e) ∙ best-append score b (map f (range_with_len a n)) (f j ∷ [])

flat-append : {A : Type 0} (f : ℕ → List A) (xs : List ℕ) (y : ℕ) → flat_map f (xs ++ y ∷ []) ≡ flat_map f xs ++ f y
flat-append f [] y = append-nil (f y)
  where
    append-nil : {A : Type 0} (xs : List A) → xs ++ [] ≡ xs
    append-nil [] = refl
    append-nil (x ∷ xs) = ap (λ r. x ∷ r) (append-nil xs)
flat-append f (x ∷ xs) y = ap (λ r. f x ++ r) (flat-append f xs y) ∙ append-assoc (f x) (flat_map f xs) (f y)
  where
    append-assoc : {A : Type 0} (xs ys zs : List A) → xs ++ (ys ++ zs) ≡ (xs ++ ys) ++ zs
    append-assoc [] ys zs = refl
    append-assoc (x ∷ xs) ys zs = ap (λ r. x ∷ r) (append-assoc xs ys zs)

map-id : (xs : List ℕ) → map (λ x. x) xs ≡ xs
map-id [] = refl
map-id (x ∷ xs) = ap (λ r. x ∷ r) (map-id xs)

range-more : (a n j : ℕ) → a + n ≡ j → range_with_len a (n + 1) ≡ range_with_len a n ++ j ∷ []
range-more a n j e = sym (map-id (range_with_len a (n + 1))) ∙ map-range_with_len_more (λ x. x) a n j e ∙ ap (λ r. r ++ j ∷ []) (map-id (range_with_len a n))

-- the candidates of one number more
pub best-flat-more : {A : Type 0} (score : A → ℕ) (b : A) (f : ℕ → List A) (a n j : ℕ) → a + n ≡ j → best_of score b (flat_map f (range_with_len a (n + 1))) ≡ best_of score (best_of score b (flat_map f (range_with_len a n))) (f j)
best-flat-more score b f a n j e = ap (λ r. best_of score b (flat_map f r)) (range-more a n j e) ∙ ap (best_of score b) (flat-append f (range_with_len a n) j) ∙ best-append score b (flat_map f (range_with_len a n)) (f j)

-- the same, of one candidate more than this
pub best-map-as : {A : Type 0} (score : A → ℕ) (b x y : A) (f : ℕ → A) (a n j : ℕ) → a + n ≡ j → x ≡ best_of score b (map f (range_with_len a n)) → y ≡ cond (ltb (score x) (score (f j))) (f j) x → y ≡ best_of score b (map f (range_with_len a (n + 1)))
best-map-as score b x y f a n j e is next = next ∙ ap (λ z. cond (ltb (score z) (score (f j))) (f j) z) is ∙ sym (best-map-more score b f a n j e)

pub best-flat-as : {A : Type 0} (score : A → ℕ) (b x y : A) (f : ℕ → List A) (a n j : ℕ) → a + n ≡ j → x ≡ best_of score b (flat_map f (range_with_len a n)) → y ≡ best_of score x (f j) → y ≡ best_of score b (flat_map f (range_with_len a (n + 1)))
best-flat-as score b x y f a n j e is next = next ∙ ap (λ z. best_of score z (f j)) is ∙ sym (best-flat-more score b f a n j e)

-- numbers from one past a on, up to j
pub best-flat-past : {A : Type 0} (score : A → ℕ) (b x y : A) (f : ℕ → List A) (a j : ℕ) → a + 1 ≤ j → x ≡ best_of score b (flat_map f (range_with_len (a + 1) (j - (a + 1)))) → y ≡ best_of score x (f j) → y ≡ best_of score b (flat_map f (range_with_len (a + 1) ((j + 1) - (a + 1))))
best-flat-past score b x y f a j h is next =
    let e : (a + 1) + (j - (a + 1)) ≡ j = omega arith in
    let n : (j - (a + 1)) + 1 ≡ (j + 1) - (a + 1) = omega arith in
    best-flat-as score b x y f (a + 1) (j - (a + 1)) j e is next ∙ ap (λ z. best_of score b (flat_map f (range_with_len (a + 1) z))) n

pub best-flat-none : {A : Type 0} (score : A → ℕ) (b : A) (f : ℕ → List A) (a : ℕ) → b ≡ best_of score b (flat_map f (range_with_len (a + 1) ((a + 1) - (a + 1))))
unfolding best_of
best-flat-none score b f a =
    let n : 0 ≡ (a + 1) - (a + 1) = omega arith in
    ap (λ z. best_of score b (flat_map f (range_with_len (a + 1) z))) n
