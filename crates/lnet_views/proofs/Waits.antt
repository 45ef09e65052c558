-- How many numbers wait.
use Rattle.std.proofs.Common.{◌≡◌, ℕ, ◌+◌, ◌<◌, ◌≤◌, zero, suc, List, [], ◌∷◌, length, cond, Option, None, Some, refl, ap, ◌∙◌, arith, set}
use Rattle.std.specs.Prelude.{is_some}
use Rattle.std.proofs.lemmas.List.Sums.{sum_by-set, sum_by-cons}
use Rattle.lnet_views.specs.Chains.{at, waiting}

abbrev one : Option ℕ → ℕ
one o = cond (is_some o) 1 0

one-small : (o : Option ℕ) → one o ≤ 1
one-small None = omega arith
one-small (Some l) = omega arith

pub waiting-le : (xs : List (Option ℕ)) → waiting xs ≤ length xs
waiting-le [] = omega arith
waiting-le (x ∷ xs) = let e = sum_by-cons one x xs in let s = one-small x in let h = waiting-le xs in omega arith

pub waiting-put : (xs : List (Option ℕ)) (n l : ℕ) → n < length xs → at xs n ≡ None → waiting xs + 1 ≡ waiting (set xs n (Some l))
waiting-put xs n l h e = let s = sum_by-set one xs n (Some l) None h in let z = ap one e in omega arith

pub waiting-off : (xs : List (Option ℕ)) (n l : ℕ) → n < length xs → at xs n ≡ Some l → waiting (set xs n None) + 1 ≡ waiting xs
waiting-off xs n l h e = let s = sum_by-set one xs n None None h in let z = ap one e in omega arith

none-here : (o : Option ℕ) → one o ≡ 0 → o ≡ None
none-here None e = refl
none-here (Some l) e = absurd (omega arith)

zero-sum : (a b : ℕ) → a ≡ 0 → b ≡ 0 → a + b ≡ 0
zero-sum a b e f = omega arith

pub all-idle : (xs : List (Option ℕ)) → ((m : ℕ) → at xs m ≡ None) → waiting xs ≡ 0
all-idle [] idle = refl
all-idle (x ∷ xs) idle = sum_by-cons one x xs ∙ zero-sum (one x) (waiting xs) (ap one (idle 0)) (all-idle xs (λ m. idle (suc m)))
