-- The slots that a cursor has still to come to, in the list of their places.
use Rattle.std.specs.Prelude.{ℕ, ◌/◌, ◌%◌, eqb, cond, List, [], ◌∷◌, map, Option, None, Some}

-- the places of a list from this one on; none where there is none
abbrev pub places_from : Option ℕ → List ℕ → List ℕ
places_from None xs = []
places_from (Some p) [] = []
places_from (Some p) (x ∷ xs) = cond (eqb x p) (x ∷ xs) (places_from (Some p) xs)

-- the gate and the slot whose place it is
abbrev pub slot_at : ℕ → ℕ × ℕ
slot_at p = (p / 6, p % 6)

-- the slots that are still to come, each as a gate and a slot
abbrev pub still : Option ℕ → List ℕ → List (ℕ × ℕ)
still at xs = map slot_at (places_from at xs)
