-- The definitions against worked rows.
use Rattle.std.proofs.Common.{◌≡◌, ℕ, true, false, [], ◌∷◌, refl}
use Rattle.lnet_tables.specs.Bits.{Rows, by_rows, is_set, tabulate, number_by}
use Rattle.lnet_npn.specs.declared.transforms.Transform.{Transform}
use Rattle.lnet_npn.specs.Transforms.{source_of, transformed, is_order, place_in, undone, inverse_of, image_of}

-- the table whose rows are the bits of a number
of_number : ℕ → Rows
of_number n = by_rows 4 (is_set n)

-- what the old function reads as variables 0, 1, 2, 3 are the new one's 1, 2, 3, 0, the first of them complemented
around : Transform
around = record { order = 1 ∷ 2 ∷ 3 ∷ 0 ∷ []; flips = 1; out = true }

-- row 6 of the new function has variables 1 and 2 true: the old one reads false, true, false, false
row_six : source_of around 6 ≡ 2
unfolding around source_of is_set number_by
row_six = refl

-- the and of variables 0 and 1 becomes the complement of the and of not 1 and 2
and_around : transformed around (of_number 34952) ≡ of_number 53199
unfolding around of_number source_of is_set number_by tabulate
and_around = refl

-- the majority of variables 0, 1 and 2 becomes that of 1, 2 and 3 with the first complemented, and its value complemented
majority_around : image_of around 59624 ≡ 3279
unfolding around image_of source_of is_set number_by
majority_around = refl

-- the same majority is its own dual: all operands and the value complemented
majority_dual : image_of (record { order = 0 ∷ 1 ∷ 2 ∷ 3 ∷ []; flips = 7; out = true }) 59624 ≡ 59624
unfolding image_of source_of is_set number_by
majority_dual = refl

back_around : inverse_of around ≡ record { order = 3 ∷ 0 ∷ 1 ∷ 2 ∷ []; flips = 2; out = true }
unfolding around undone place_in is_set number_by
back_around = refl

orders : is_order (1 ∷ 2 ∷ 3 ∷ 0 ∷ []) ≡ true
orders = refl

twice_named : is_order (1 ∷ 2 ∷ 2 ∷ 0 ∷ []) ≡ false
twice_named = refl

past_three : is_order (1 ∷ 2 ∷ 4 ∷ 0 ∷ []) ≡ false
past_three = refl

too_short : is_order (1 ∷ 2 ∷ 0 ∷ []) ≡ false
too_short = refl
