-- The views on a shelf, as it changes.
use Rattle.std.proofs.Common.{◌≡◌, ℕ, zero, suc, ◌<◌, ◌≤◌, ◌+◌, slice_get, List, [], ◌∷◌, ◌++◌, length, map, get_or, refl, ap, drop, Some, append_assoc, ◌∙◌, sym, arith}
use Rattle.std.proofs.Math.Seq.{drop-nil}
use Rattle.std.specs.List.{remove, insert, AllByRecursion}

module _ {B : Type 0} (P : B → Type 0) where
  pub all-without : (xs : List B) (i : ℕ) → AllByRecursion P xs → AllByRecursion P (remove xs i)
  all-without [] zero h = tt
  all-without [] (suc i) h = tt
  all-without (x ∷ xs) zero h = h.1
  all-without (x ∷ xs) (suc i) h = (h.0, all-without xs i h.1)

  pub all-with : (xs : List B) (i : ℕ) (x : B) → P x → AllByRecursion P xs → AllByRecursion P (insert xs i x)
  all-with [] zero x p h = (p, tt)
  all-with [] (suc i) x p h = (p, tt)
  all-with (y ∷ xs) zero x p h = (p, h)
  all-with (y ∷ xs) (suc i) x p h = (h.0, all-with xs i x p h.1)

  pub all-more : (xs : List B) (x : B) → P x → AllByRecursion P xs → AllByRecursion P (xs ++ x ∷ [])
  all-more [] x p h = (p, tt)
  all-more (y ∷ xs) x p h = (h.0, all-more xs x p h.1)

module _ {B K : Type 0} (f : B → K) where
  pub map-without : (xs : List B) (i : ℕ) → map f (remove xs i) ≡ remove (map f xs) i
  map-without [] zero = refl
  map-without [] (suc i) = refl
  map-without (x ∷ xs) zero = refl
  map-without (x ∷ xs) (suc i) = ap (λ ks. f x ∷ ks) (map-without xs i)

  pub map-more : (xs : List B) (x : B) → map f (xs ++ x ∷ []) ≡ map f xs ++ f x ∷ []
  map-more [] x = refl
  map-more (y ∷ xs) x = ap (λ ks. f y ∷ ks) (map-more xs x)

  -- a view of the same kind put back where one was taken from
  pub map-back : (xs : List B) (i : ℕ) (x d : B) → i < length xs → f x ≡ f (get_or xs i d) → map f (insert (remove xs i) i x) ≡ map f xs
  map-back [] i x d lt same = absurd (omega arith)
  map-back (y ∷ xs) zero x d lt same = ap (λ k. k ∷ map f xs) same
  map-back (y ∷ xs) (suc i) x d lt same = ap (λ ks. f y ∷ ks) (map-back xs i x d (omega arith) same)

  pub get-map : (xs : List B) (i : ℕ) (d : B) → get_or (map f xs) i (f d) ≡ f (get_or xs i d)
  get-map [] i d = refl
  get-map (x ∷ xs) zero d = refl
  get-map (x ∷ xs) (suc i) d = get-map xs i d

  pub map-len : (xs : List B) → length (map f xs) ≡ length xs
  map-len [] = refl
  map-len (x ∷ xs) = ap suc (map-len xs)

  -- an item of another default
  pub get-default : (ks : List K) (i : ℕ) (d e : K) → i < length ks → get_or ks i d ≡ get_or ks i e
  get-default [] i d e lt = absurd (omega arith)
  get-default (k ∷ ks) zero d e lt = refl
  get-default (k ∷ ks) (suc i) d e lt = get-default ks i d e (omega arith)

-- the items from a place on
pub drop-at : {A : Type 0} (xs : List A) (i : ℕ) (x : A) → slice_get xs i ≡ Some x → drop i xs ≡ x ∷ drop (i + 1) xs
drop-at [] i x e = cc
drop-at (y ∷ xs) zero x e = let same : y ≡ x = cc in ap (λ z. z ∷ xs) same
drop-at (y ∷ xs) (suc i) x e = let next : suc i + 1 ≡ suc (i + 1) = omega arith in drop-at xs i x e ∙ ap (λ k. x ∷ drop k (y ∷ xs)) (sym next)

pub drop-past : {A : Type 0} (xs : List A) (i : ℕ) → length xs ≤ i → drop i xs ≡ []
drop-past [] i le = drop-nil i
drop-past (x ∷ xs) zero le = absurd (omega arith)
drop-past (x ∷ xs) (suc i) le = drop-past xs i (omega arith)

-- the kinds on a shelf and those still to come, one further
pub kinds-on : {K : Type 0} (old new rest now total : List K) (k : K) → new ≡ old ++ k ∷ [] → now ≡ k ∷ rest → old ++ now ≡ total → new ++ rest ≡ total
kinds-on old new rest now total k grown is so_far = ap (λ ks. ks ++ rest) grown ∙ append_assoc old (k ∷ []) rest ∙ ap (λ ks. old ++ ks) (sym is) ∙ so_far
