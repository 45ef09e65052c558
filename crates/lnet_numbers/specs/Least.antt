-- The least member of a set of numbers, where item n of a list says whether number n is a member.
use Rattle.std.specs.Prelude.{◌≡◌, ℕ, ◌<◌, Bool, true, false, List, length, slice_index_or}

-- number n is a member, and no number below it is
pub record IsLeast (members : List Bool) (n : ℕ) : Type 0 where
  pub within : n < length members
  pub member : slice_index_or members n false ≡ true
  pub below : (m : ℕ) → m < n → slice_index_or members m false ≡ false
