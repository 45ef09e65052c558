-- The lines of a text. It is cut at newlines (byte 10); a last piece without newline is a line where it isn't empty; a
-- carriage return (byte 13) right before a newline is dropped.
use Rattle.std.specs.Prelude.{ℕ, ◌-◌, Bool, List, [], ◌∷◌, length, take, slice_index, ◌==◌, nat_lt, if◌then◌else◌}
use Rattle.std.specs.List.{slice_split, before_first, after_first, position_or_len}

abbrev pub is_newline : ℕ → Bool
is_newline b = b == 10

-- a piece without the carriage return at its end, if it has one
abbrev pub without_return : List ℕ → List ℕ
without_return piece = if slice_index piece (length piece - 1) == 13 then take (length piece - 1) piece else piece

-- the lines of the pieces between newlines: behind the last piece there is none
abbrev pub lines_of_pieces : List (List ℕ) → List (List ℕ)
lines_of_pieces [] = []
lines_of_pieces (last ∷ []) = last_line last where
  last_line : List ℕ → List (List ℕ)
  last_line [] = []
  last_line (b ∷ bs) = (b ∷ bs) ∷ []
lines_of_pieces (piece ∷ next ∷ pieces) = without_return piece ∷ lines_of_pieces (next ∷ pieces)

-- the lines of a text
abbrev pub lines_of : List ℕ → List (List ℕ)
lines_of bytes = lines_of_pieces (slice_split is_newline bytes)

-- the first line of a text that isn't empty
abbrev pub first_line : List ℕ → List ℕ
first_line bytes = if nat_lt (position_or_len is_newline bytes) (length bytes) then without_return (before_first is_newline bytes) else bytes

-- what is behind the first line
abbrev pub after_line : List ℕ → List ℕ
after_line bytes = after_first is_newline bytes

-- a place between the lines of a text: the bytes that are left, and the number of the line that is due
pub record Place : Type 0 where
  pub rest : List ℕ
  pub number : ℕ
