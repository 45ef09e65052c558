-- A table without the variables that its function does not depend on.
use Rattle.std.specs.Prelude.{ℕ, zero, suc, ◌-◌, cond, List, [], ◌∷◌, ◌++◌, length}
use mathlib.Core.Bool.{◌&&◌}
use lib.ListN.{replicate}
use Rattle.lnet_tables.specs.Bits.{Rows, row, by_rows, is_set, number_by, support_of}

-- the places below n of the set bits of m, ascending
unfoldable pub places : ℕ → ℕ → List ℕ
places m zero = []
places m (suc n) = places m n ++ cond (is_set m n) (n ∷ []) []

-- how many bits of m below n are set
abbrev pub rank : ℕ → ℕ → ℕ
rank m n = length (places m n)

-- the row whose bits at the set bits of m are those of r, in order, and whose other bits are 0
abbrev pub spread : ℕ → ℕ → ℕ → ℕ
spread r m n = number_by (λ i. is_set m i && is_set r (rank m i)) n

-- the function of the variables in its support alone, in their order
abbrev pub shrink_rows : Rows → Rows
shrink_rows a = by_rows (rank (support_of a) a.vars) (λ r. row a (spread r (support_of a) a.vars))

-- ten entries: those of a list, and zeros after them
unfoldable pub padded : List ℕ → List ℕ
padded ks = ks ++ replicate (10 - length ks) 0
