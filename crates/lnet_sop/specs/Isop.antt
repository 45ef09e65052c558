-- The irredundant sum of products between two bounds. Source: S. Minato, "Fast Generation of Irredundant Sum-of-Products
-- Forms from Binary Decision Diagrams", SASIMI 1992, and E. Morreale, "Recursive Operators for Prime Implicant and
-- Irredundant Normal Form Determination", IEEE Transactions on Computers C-19 (1970).
use Rattle.std.specs.Prelude.{ℕ, zero, suc, ◌+◌, ◌*◌, ◌^◌, ◌%◌, Bool, true, false, cond, List, [], ◌∷◌, ◌++◌, map, ◌&&◌, ◌||◌}
use Rattle.lnet_tables.specs.Bits.{Rows, row, bit_of, is_set, by_rows, equal_rows, not_rows, and_rows}
use Rattle.lnet_tables.specs.Shannon.{is_constant}
use Rattle.lnet_sop.specs.declared.cover.Cube.{Cube}
use Rattle.lnet_sop.specs.Covers.{CoverValue, union_rows}

-- the cube without literals, which holds everywhere
abbrev pub universe : Cube
universe = record { care = 0; value = 0 }

-- a cube of the first n variables with a literal of variable n: plain where the flag is set, and else complemented
abbrev pub with_literal : ℕ → Bool → Cube → Cube
with_literal n plain c = record { care = 2 ^ n + c.care; value = bit_of plain * 2 ^ n + c.value }

-- a cube with the literals of another one, of variables past its own
abbrev pub in_context : Cube → Cube → Cube
in_context a c = record { care = a.care + c.care; value = a.value + c.value }

-- the function of the first n variables that one of n + 1 variables is where the last has a value
abbrev pub half : Rows → ℕ → Bool → Rows
half t n value = by_rows n (λ r. row t (bit_of value * 2 ^ n + r))

-- one of two functions, or both
abbrev pub or_rows : Rows → Rows → Rows
or_rows a b = by_rows a.vars (λ r. row a r || row b r)

-- where the first function is true and the second isn't
abbrev pub minus_rows : Rows → Rows → Rows
minus_rows a b = and_rows a (not_rows b)

-- the function of one variable more that is low where it is false and high where it is true
abbrev pub joined_rows : Rows → Rows → Rows
joined_rows low high = by_rows (low.vars + 1) (λ r. cond (is_set r low.vars) (row high (r % 2 ^ low.vars)) (row low (r % 2 ^ low.vars)))

-- the cover by the last variable, n, of a lower bound that is low and high where it is false and true, and an upper bound
-- that is under and over there: the cubes that need its complement, then those that need it, then those that cover the
-- rows that are left for either value. f l u is the cover between l and u of the first n variables
abbrev pub by_halves : (Rows → Rows → List Cube) → ℕ → Rows → Rows → Rows → Rows → List Cube
by_halves f n low high under over =
    let if_false : List Cube = f (minus_rows low over) under in
    let if_true : List Cube = f (minus_rows high under) over in
    let left : Rows = or_rows (minus_rows low (union_rows n if_false)) (minus_rows high (union_rows n if_true)) in
    map (with_literal n false) if_false ++ (map (with_literal n true) if_true ++ f left (and_rows under over))

-- the same where neither bound depends on the variable (the flag is set): it is passed over
abbrev pub by_last : Bool → (Rows → Rows → List Cube) → ℕ → Rows → Rows → Rows → Rows → List Cube
by_last true f n low high under over = f low under
by_last false f n low high under over = by_halves f n low high under over

-- no cube where the lower bound is false, the cube without literals where the upper bound is true, else the last variable
abbrev pub by_bounds : Bool → Bool → (Rows → Rows → List Cube) → ℕ → Rows → Rows → Rows → Rows → List Cube
by_bounds true all f n low high under over = []
by_bounds false true f n low high under over = universe ∷ []
by_bounds false false f n low high under over = by_last (equal_rows low high && equal_rows under over) f n low high under over

-- the cubes of the irredundant sum of products between two functions of n variables
unfoldable pub cubes_of : ℕ → Rows → Rows → List Cube
cubes_of zero lower upper = cond (is_constant lower false) [] (universe ∷ [])
cubes_of (suc n) lower upper =
    by_bounds (is_constant lower false) (is_constant upper true) (λ l u. cubes_of n l u) n
    (half lower n false) (half lower n true) (half upper n false) (half upper n true)

-- the cover between two bounds
abbrev pub isop_of : Rows → Rows → CoverValue
isop_of lower upper = record { vars = lower.vars; cubes = cubes_of lower.vars lower upper }
