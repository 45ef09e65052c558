-- How 16 words of 64 bits hold the rows of a table.
use Rattle.std.specs.Prelude.{ℕ, ◌+◌, ◌*◌, ◌^◌, ◌/◌, ◌%◌, ◌<◌, ◌≤◌, ◌≡◌, Bool, false, List, map, length}
use Rattle.std.specs.List.{range_with_len}
use Rattle.lnet_tables.specs.Bits.{number_by, Rows, row, is_set}
use lib.ListN.{get_or}

-- row r is bit r % 64 of word r / 64
unfoldable pub word_bit : List ℕ → ℕ → Bool
word_bit ws r = is_set (get_or ws (r / 64) 0) (r % 64)

-- sixteen words that hold a table of `vars` variables, with 0 past its rows
pub record Fit (vars : ℕ) (ws : List ℕ) : Type 0 where
  pub few : vars ≤ 10
  pub sixteen : length ws ≡ 16
  pub words : (i : ℕ) → get_or ws i 0 < 2 ^ 64
  pub clear : (r : ℕ) → 2 ^ vars ≤ r → word_bit ws r ≡ false

-- word k of a table
abbrev pub word_of : Rows → ℕ → ℕ
word_of t k = number_by (λ i. row t (64 * k + i)) 64

-- the sixteen words of a table
unfoldable pub words_of : Rows → List ℕ
words_of t = map (word_of t) (range_with_len 0 16)
