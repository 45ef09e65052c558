-- Which numbers are free, as the slots tell it.
use Rattle.std.proofs.Common.{◌≡◌, ℕ, zero, suc, ◌<◌, Bool, true, false, List, [], ◌∷◌, ◌++◌, map, length, replicate, IsSome, Option, None, Some, get_or, refl, sym, ap, arith}
use Rattle.std.proofs.Math.ListN.{set}
use Rattle.lnet_store.specs.Held.{entry_in, is_empty}
use Rattle.lnet_store.specs.declared.slots.Slot.{Slot}

pub frees-set : (slots : List (Option Slot)) (n : ℕ) (o : Option Slot) → map is_empty (set slots n o) ≡ set (map is_empty slots) n (is_empty o)
frees-set [] n o = refl
frees-set (s ∷ ss) zero o = refl
frees-set (s ∷ ss) (suc n) o = ap (λ zs. is_empty s ∷ zs) (frees-set ss n o)

pub frees-more : (k : ℕ) → map is_empty (replicate {A = Option Slot} k None) ≡ replicate k true
frees-more zero = refl
frees-more (suc k) = ap (λ zs. true ∷ zs) (frees-more k)

pub frees-grown : (slots : List (Option Slot)) (k : ℕ) → map is_empty (slots ++ replicate k None) ≡ map is_empty slots ++ replicate k true
frees-grown [] k = frees-more k
frees-grown (s ∷ ss) k = ap (λ zs. is_empty s ∷ zs) (frees-grown ss k)

pub frees-length : (slots : List (Option Slot)) → length (map is_empty slots) ≡ length slots
frees-length [] = refl
frees-length (s ∷ ss) = ap suc (frees-length ss)

pub frees-there : (slots : List (Option Slot)) (n : ℕ) → IsSome (get_or slots n None) → get_or (map is_empty slots) n false ≡ false
frees-there [] n h = refl
frees-there (None ∷ ss) zero h = let z : false ≡ true = h in cc
frees-there (Some s ∷ ss) zero h = refl
frees-there (o ∷ ss) (suc n) h = frees-there ss n h

-- what is free holds nothing, and what isn't holds something
pub frees-empty : (slots : List (Option Slot)) (n : ℕ) → get_or (map is_empty slots) n false ≡ true → get_or slots n None ≡ None
frees-empty [] n h = refl
frees-empty (None ∷ ss) zero h = refl
frees-empty (Some s ∷ ss) zero h = cc
frees-empty (o ∷ ss) (suc n) h = frees-empty ss n h

pub frees-full : (slots : List (Option Slot)) (n : ℕ) → n < length slots → get_or (map is_empty slots) n false ≡ false → IsSome (get_or slots n None)
frees-full [] n lt h = absurd (omega arith)
frees-full (None ∷ ss) zero lt h = cc
frees-full (Some s ∷ ss) zero lt h = refl
frees-full (o ∷ ss) (suc n) lt h = frees-full ss n (omega arith) h

pub set-same : (xs : List Bool) (n : ℕ) (v : Bool) → get_or xs n v ≡ v → set xs n v ≡ xs
set-same [] n v h = refl
set-same (x ∷ xs) zero v h = ap (λ z. z ∷ xs) (sym h)
set-same (x ∷ xs) (suc n) v h = ap (λ zs. x ∷ zs) (set-same xs n v h)

pub in-some : (o : Option Slot) → IsSome (entry_in o) → IsSome o
in-some None h = h
in-some (Some s) h = refl
