-- Notes of numbers, empty between two substitutions.
use Rattle.std.specs.Prelude.{◌≡◌, ◌≤◌, ℕ, false, length, slice_index_or}
use Rattle.lnet_hashed.specs.declared.notes.Notes.{Notes}

-- no number is noted
pub record AreBlank (notes : Notes) : Type 0 where
  pub no_fresh : (n : ℕ) → slice_index_or notes.fresh n false ≡ false
  pub no_lost : (n : ℕ) → slice_index_or notes.lost n false ≡ false

-- there is room for notes of so many numbers
pub record CanNote (notes : Notes) (numbers : ℕ) : Type 0 where
  pub fresh_long : numbers ≤ length notes.fresh
  pub lost_long : numbers ≤ length notes.lost
