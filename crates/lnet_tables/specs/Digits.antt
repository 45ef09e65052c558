-- The hexadecimal digits of a table.
use Rattle.std.specs.Prelude.{ℕ, zero, suc, ◌/◌, ◌%◌, ◌^◌, false, List, [], ◌++◌, nat_lt, if◌then◌else◌}
use Rattle.std.specs.Fmt.{digits}

-- how many hexadecimal digits a table of so many variables has: a digit is four rows, and there is one at least
abbrev pub digit_count : ℕ → ℕ
digit_count vars = if nat_lt vars 2 then 1 else 2 ^ vars / 4

-- so many of a table's least hexadecimal digits, the most significant first, in lower case
abbrev pub hex_digits : ℕ → ℕ → List ℕ
hex_digits zero t = []
hex_digits (suc k) t = digits 16 false ((t / 16 ^ k) % 16) ++ hex_digits k t
