-- Lists with a default value put after them.
use Rattle.std.proofs.Common.{◌≡◌, ℕ, zero, suc, List, [], ◌∷◌, ◌++◌, replicate, refl, get_or}

-- a list of the default is read as it
get_or-replicate_default : {X : Type 0} (d : X) (k n : ℕ) → get_or (replicate k d) n d ≡ d
get_or-replicate_default d zero n = refl
get_or-replicate_default d (suc k) zero = refl
get_or-replicate_default d (suc k) (suc n) = get_or-replicate_default d k n

-- a list with defaults put after it is read as before
pub get_or-append_default : {X : Type 0} (d : X) (xs : List X) (k n : ℕ) → get_or (xs ++ replicate k d) n d ≡ get_or xs n d
get_or-append_default d [] k n = get_or-replicate_default d k n
get_or-append_default d (x ∷ xs) k zero = refl
get_or-append_default d (x ∷ xs) k (suc n) = get_or-append_default d xs k n
