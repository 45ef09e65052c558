-- What holds of the elements so far.
use Rattle.std.proofs.Common.{◌≡◌, ℕ, zero, suc, ◌+◌, ◌<◌, ◌≤◌, List, [], ◌∷◌, length, take, get_or, subst, arith}
use Rattle.std.specs.List.{AllByRecursion}

one_more : {X : Type 0} (P : X → Type 0) (xs : List X) (i : ℕ) (x : X) → i < length xs → x ≡ get_or xs i x → P x → AllByRecursion P (take i xs) → AllByRecursion P (take (suc i) xs)
one_more P [] i x low is p all = absurd (omega arith)
one_more P (y ∷ ys) zero x low is p all = (subst P is p, tt)
one_more P (y ∷ ys) (suc i) x low is p all = (all.0, one_more P ys i x (omega arith) is p all.1)

-- one more element
pub take_more : {X : Type 0} (P : X → Type 0) (xs : List X) (i : ℕ) (x : X) → i < length xs → x ≡ get_or xs i x → P x → AllByRecursion P (take i xs) → AllByRecursion P (take (i + 1) xs)
take_more P xs i x low is p all = let e : suc i ≡ i + 1 = omega arith in subst (λ (n : ℕ). AllByRecursion P (take n xs)) e (one_more P xs i x low is p all)

-- all elements
pub all_taken : {X : Type 0} (P : X → Type 0) (xs : List X) (i : ℕ) → length xs ≤ i → AllByRecursion P (take i xs) → AllByRecursion P xs
all_taken P [] i most all = tt
all_taken P (x ∷ xs) zero most all = absurd (omega arith)
all_taken P (x ∷ xs) (suc i) most all = (all.0, all_taken P xs i (omega arith) all.1)
