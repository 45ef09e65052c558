-- A bit map of four levels: each above the first has a bit for each word of the one below it.
use Rattle.std.specs.Prelude.{◌≡◌, ℕ, ◌*◌, ◌/◌, ◌≤◌, Bool, true, List, length}
use Rattle.lnet_numbers.specs.Words.{bit, HasBitIn}

-- bit i of the upper level is set exactly where word i of the lower one has a set bit
pub record IsOver (upper lower : List Bool) : Type 0 where
  pub reaches : length lower ≤ 64 * length upper
  pub up : (n : ℕ) → bit lower n ≡ true → bit upper (n / 64) ≡ true
  pub down : (i : ℕ) → bit upper i ≡ true → HasBitIn lower i

-- three levels over the first one, the last of which has one word at most
pub record IsTower (numbers words blocks regions : List Bool) : Type 0 where
  pub first : IsOver words numbers
  pub second : IsOver blocks words
  pub third : IsOver regions blocks
  pub top : length regions ≤ 64
