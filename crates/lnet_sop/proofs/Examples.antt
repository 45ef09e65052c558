-- The definitions against worked rows, and the plain cases of a factored form.
use Rattle.std.proofs.Common.{◌≡◌, ℕ, true, false, [], ◌∷◌, refl}
use Rattle.lnet_tables.specs.Bits.{Rows, by_rows, is_set, tabulate, with_bit}
use Rattle.lnet_tables.specs.Shannon.{other}
use Rattle.lnet_sop.specs.declared.cover.Cube.{Cube}
use Rattle.lnet_sop.specs.Covers.{holds}
use Rattle.lnet_sop.specs.Isop.{cubes_of}
use Rattle.lnet_sop.specs.Factored.{conjunction, disjunction, most_common, form_in, form_of}

-- the table of n variables whose rows are the bits of a number
of_number : ℕ → ℕ → Rows
of_number n k = by_rows n (is_set k)

cube : ℕ → ℕ → Cube
cube care value = record { care = care; value = value }

-- the cube of variable 2 and the complement of variable 0 holds at rows 4 and 6
cube_at_four : holds 3 (cube 5 4) 4 ≡ true
unfolding cube holds is_set
cube_at_four = refl

cube_at_five : holds 3 (cube 5 4) 5 ≡ false
unfolding cube holds is_set
cube_at_five = refl

-- the majority of three has the three pairs, those of the last variable first
majority_cubes : cubes_of 3 (of_number 3 232) (of_number 3 232) ≡ cube 6 6 ∷ cube 5 5 ∷ cube 3 3 ∷ []
unfolding of_number cube cubes_of tabulate is_set holds
majority_cubes = refl

-- both of two are due and either may be true: variable 0 alone
between_cubes : cubes_of 2 (of_number 2 8) (of_number 2 14) ≡ cube 1 1 ∷ []
unfolding of_number cube cubes_of tabulate is_set holds
between_cubes = refl

-- each literal of the majority stands in two cubes: the first is that of variable 0
majority_literal : most_common 6 (cube 6 6 ∷ cube 5 5 ∷ cube 3 3 ∷ []) ≡ record { 0 = 2 }
unfolding cube most_common is_set
majority_literal = refl

-- the complement of variable 1 stands in two cubes, each other literal in one
complement_literal : most_common 6 (cube 3 1 ∷ cube 6 4 ∷ []) ≡ record { 0 = 5 }
unfolding cube most_common is_set
complement_literal = refl

-- variables 0 and 1 and the complement of 2
conjunction_steps : (conjunction 3 4 (cube 7 3)).root ≡ record { 0 = 10 }
unfolding cube conjunction is_set
conjunction_steps = refl

-- the majority: a(b or c) or bc
majority_root : (form_of 3 4 (cube 6 6 ∷ cube 5 5 ∷ cube 3 3 ∷ [])).root ≡ record { 0 = 15 }
unfolding cube form_of form_in conjunction disjunction most_common is_set with_bit other
majority_root = refl
