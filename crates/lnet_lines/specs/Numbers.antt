-- Numbers in texts: 1 to 10 decimal digits, with a value up to 2,147,483,647. Leading zeros are accepted.
use Rattle.std.specs.Prelude.{ℕ, Bool, ◌&&◌, List, length, Option, Some, None, nat_lt, nat_le, if◌then◌else◌}
use Rattle.std.specs.Str.{all_ascii_digits}
use Rattle.std.specs.Str.Parse.{digits_value}

-- the text is a number
abbrev pub is_number : List ℕ → Bool
is_number text = all_ascii_digits text && nat_lt 0 (length text) && nat_le (length text) 10 && nat_le (digits_value 10 text) 2147483647

-- the number that a text is
unfoldable pub number_of : List ℕ → Option ℕ
number_of text = if is_number text then Some (digits_value 10 text) else None

-- a value that isn't past the greatest number
abbrev pub up_to_greatest : Option ℕ → Option ℕ
up_to_greatest None = None
up_to_greatest (Some n) = if nat_le n 2147483647 then Some n else None
