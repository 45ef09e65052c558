-- Marks of numbers, and how they grow.
use Rattle.std.specs.Prelude.{◌≡◌, ℕ, Bool, true, false, ◌⊎◌, List, length, count_by, slice_index_or}
use Rattle.lnet_model.specs.Networks.{NetworkValue}
use Rattle.lnet_model.specs.Changes.{IsGateAt}

-- whether the number is marked; one past the marks isn't
abbrev pub marks_of : List Bool → ℕ → Bool
marks_of bs n = slice_index_or bs n false

-- how many numbers are marked
unfoldable pub marked_count : List Bool → ℕ
marked_count bs = count_by (λ b. b) bs

-- the marks grew by those of P
pub record MarkedMore (P : ℕ → Type 0) (old new : List Bool) : Type 0 where
  pub len : length new ≡ length old
  pub only : (n : ℕ) → marks_of new n ≡ true → (marks_of old n ≡ true) ⊎ P n
  pub before : (n : ℕ) → marks_of old n ≡ true → marks_of new n ≡ true
  pub those : (n : ℕ) → P n → marks_of new n ≡ true

-- only gates are marked
abbrev pub OnlyGates : NetworkValue → List Bool → Type 0
OnlyGates N bs = (n : ℕ) → marks_of bs n ≡ true → IsGateAt N n
