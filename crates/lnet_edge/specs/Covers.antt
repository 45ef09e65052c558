-- Covers as contracts see them, and what their rows say. Source: the cover tables of the Berkeley Logic Interchange Format.
use Rattle.std.specs.Prelude.{ℕ, ◌==◌, ◌||◌, Bool, List}
use Rattle.std.specs.List.{list_all}

-- the rows in order, and the value that the target has where a row holds
pub record CoverValue : Type 0 where
  pub value : Bool
  pub rows : List (List ℕ)

-- whether the byte is `0`, `1` or `-`
abbrev pub is_cell : ℕ → Bool
is_cell b = (b == 48) || (b == 49) || (b == 45)

-- whether each byte is
abbrev pub is_row : List ℕ → Bool
is_row row = list_all is_cell row
