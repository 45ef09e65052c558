-- Members of lists of numbers, by recursion.
use Rattle.std.proofs.Common.{◌≡◌, ℕ, zero, suc, ◌+◌, ◌<◌, ◌⊎◌, List, [], ◌∷◌, ◌++◌, length, get_or, Contains, refl, sym, subst, inl, inr, arith}
use Rattle.std.specs.List.{AllByRecursion}
use Rattle.lnet_model.specs.Along.{In}
use Rattle.lnet_model.proofs.Map.{Apart}
use Rattle.lnet_edge.specs.Wires.{Repeats}

-- ---- members

pub in-left : (x : ℕ) (xs ys : List ℕ) → In x xs → In x (xs ++ ys)
in-left x [] ys i = absurd i
in-left x (z ∷ xs) ys (inl e) = inl e
in-left x (z ∷ xs) ys (inr i) = inr (in-left x xs ys i)

pub in-right : (x : ℕ) (xs ys : List ℕ) → In x ys → In x (xs ++ ys)
in-right x [] ys i = i
in-right x (z ∷ xs) ys i = inr (in-right x xs ys i)

pub in-cases : (x : ℕ) (xs ys : List ℕ) → In x (xs ++ ys) → In x xs ⊎ In x ys
in-cases x [] ys i = inr i
in-cases x (z ∷ xs) ys (inl e) = inl (inl e)
in-cases x (z ∷ xs) ys (inr i) = elim (in-cases x xs ys i) [ inl h ↦ inl (inr h) | inr h ↦ inr h ]

pub in-contains : (x : ℕ) (xs : List ℕ) → In x xs → Contains xs x
in-contains x [] i = absurd i
in-contains x (z ∷ xs) (inl e) = (0, omega arith, sym e)
in-contains x (z ∷ xs) (inr i) = let r = in-contains x xs i in (suc r.0, (let h = r.1 in omega arith), r.2)

pub in-at : (xs : List ℕ) (k d : ℕ) → k < length xs → In (get_or xs k d) xs
in-at [] k d h = absurd (omega arith)
in-at (x ∷ xs) zero d h = inl refl
in-at (x ∷ xs) (suc k) d h = inr (in-at xs k d (omega arith))

pub contains-in : (x : ℕ) (xs : List ℕ) → Contains xs x → In x xs
contains-in x xs (k, low, is) = subst (λ z. In z xs) is (in-at xs k x low)

-- ---- what holds of each

pub each-append : {X : Type 0} (P : X → Type 0) (xs ys : List X) → AllByRecursion P xs → AllByRecursion P ys → AllByRecursion P (xs ++ ys)
each-append P [] ys px py = py
each-append P (x ∷ xs) ys px py = (px.0, each-append P xs ys px.1 py)

pub each-weaker : {X : Type 0} (P Q : X → Type 0) → ((x : X) → P x → Q x) → (xs : List X) → AllByRecursion P xs → AllByRecursion Q xs
each-weaker P Q f [] p = tt
each-weaker P Q f (x ∷ xs) p = (f x p.0, each-weaker P Q f xs p.1)

pub each-in : (P : ℕ → Type 0) (xs : List ℕ) (x : ℕ) → AllByRecursion P xs → In x xs → P x
each-in P [] x p i = absurd i
each-in P (z ∷ xs) x p (inl e) = subst P (sym e) p.0
each-in P (z ∷ xs) x p (inr i) = each-in P xs x p.1 i

-- ---- numbers that stand once

pub apart-append : (xs ys : List ℕ) → Apart xs → Apart ys → ((x : ℕ) → In x xs → In x ys → ⊥) → Apart (xs ++ ys)
apart-append [] ys ax ay other = ay
apart-append (x ∷ xs) ys ax ay other = (
  λ i. elim (in-cases x xs ys i) [ inl h ↦ ax.0 h | inr h ↦ other x (inl refl) h ],
  apart-append xs ys ax.1 ay (λ y i. other y (inr i)),
)

pub apart-once : (xs : List ℕ) → Apart xs → ¬ (Repeats xs)
apart-once [] a (i, j, below, within, same) = absurd (omega arith)
apart-once (x ∷ xs) a (zero, zero, below, within, same) = absurd (omega arith)
apart-once (x ∷ xs) a (zero, suc j, below, within, same) = a.0 (subst (λ z. In z xs) (sym same) (in-at xs j 0 (omega arith)))
apart-once (x ∷ xs) a (suc i, zero, below, within, same) = absurd (omega arith)
apart-once (x ∷ xs) a (suc i, suc j, below, within, same) = apart-once xs a.1 (i, j, omega arith, omega arith, same)

-- numbers that differ by their places
pub apart-by_place : (xs : List ℕ) → ((i j : ℕ) → i < j → j < length xs → get_or xs i 0 ≡ get_or xs j 0 → ⊥) → Apart xs
apart-by_place [] f = tt
apart-by_place (x ∷ xs) f = (
  λ i. let c = in-contains x xs i in f 0 (suc c.0) (omega arith) (let h = c.1 in omega arith) (sym (get_default xs c.0 x c.1 c.2)),
  apart-by_place xs (λ i j below within. f (suc i) (suc j) (omega arith) (omega arith)),
)
  where
    get_default : (xs : List ℕ) (k x : ℕ) → k < length xs → get_or xs k x ≡ x → get_or xs k 0 ≡ x
    get_default [] k x h e = absurd (omega arith)
    get_default (y ∷ ys) zero x h e = e
    get_default (y ∷ ys) (suc k) x h e = get_default ys k x (omega arith) e
