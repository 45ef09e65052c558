-- Empty places more at the end of a list.
use Rattle.std.proofs.Common.{◌≡◌, ℕ, zero, suc, List, [], ◌∷◌, ◌++◌, Option, None, refl, get_or}

-- an empty place more is read as none was
pub none_more : {X : Type 0} (xs : List (Option X)) (n : ℕ) → get_or (xs ++ None ∷ []) n None ≡ get_or xs n None
none_more [] zero = refl
none_more [] (suc n) = refl
none_more (x ∷ xs) zero = refl
none_more (x ∷ xs) (suc n) = none_more xs n
