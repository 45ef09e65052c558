-- A list of bits of which only those below a room may be set.
use Rattle.std.specs.Prelude.{◌≡◌, ℕ, ◌≤◌, Bool, false, List, length, slice_index_or}

-- the list reaches to the room, and from there on no bit is set
pub record IsWithin (bits : List Bool) (room : ℕ) : Type 0 where
  pub fits : room ≤ length bits
  pub past : (n : ℕ) → room ≤ n → slice_index_or bits n false ≡ false
