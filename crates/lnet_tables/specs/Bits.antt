-- Truth tables: the values of a boolean function of `vars` variables, one row for each assignment, where bit i of the
-- row's number is variable i (Knuth, "The Art of Computer Programming", volume 4A, section 7.1.1).
use Rattle.std.specs.Prelude.{ℕ, zero, suc, ◌-◌, ◌+◌, ◌*◌, ◌^◌, ◌%◌, Bool, true, false, not, cond, List, map, ◌==◌}
use Rattle.std.specs.List.{range_with_len}
use Rattle.std.specs.Int.{bit_at}
use mathlib.Core.Bool.{◌&&◌, beq}
use Rattle.std.specs.Cmp.Lexicographic.{pointwise}
use lib.ListN.{get_or}

-- a table: its number of variables, and the value of each row
pub record Rows : Type 0 where
  pub vars : ℕ
  pub bits : List Bool

-- the list f 0, f 1, .., f (n - 1)
unfoldable pub tabulate : (ℕ → Bool) → ℕ → List Bool
tabulate f n = map f (range_with_len 0 n)

-- the value of row r
abbrev pub row : Rows → ℕ → Bool
row t r = get_or t.bits r false

-- bit i of the number r
unfoldable pub is_set : ℕ → ℕ → Bool
is_set r i = bit_at r i == 1

-- exactly one of two
abbrev pub bit_xor2 : Bool → Bool → Bool
bit_xor2 a b = cond a (not b) b

-- a truth value as a number
abbrev pub bit_of : Bool → ℕ
bit_of b = cond b 1 0

-- a table by the value of each of its rows
abbrev pub by_rows : ℕ → (ℕ → Bool) → Rows
by_rows n f = record { vars = n; bits = tabulate f (2 ^ n) }

-- the function with one value at every row
abbrev pub constant_rows : ℕ → Bool → Rows
constant_rows n value = by_rows n (λ r. value)

-- the function that is variable `index`
abbrev pub variable_rows : ℕ → ℕ → Rows
variable_rows n index = by_rows n (λ r. is_set r index)

-- the complement of a function
abbrev pub not_rows : Rows → Rows
not_rows a = by_rows a.vars (λ r. not (row a r))

-- both of two functions
abbrev pub and_rows : Rows → Rows → Rows
and_rows a b = by_rows a.vars (λ r. row a r && row b r)

-- exactly one of two functions
abbrev pub xor_rows : Rows → Rows → Rows
xor_rows a b = by_rows a.vars (λ r. bit_xor2 (row a r) (row b r))

-- the row r with bit i set to v
unfoldable pub with_bit : ℕ → ℕ → Bool → ℕ
with_bit r i v = (r - bit_at r i * 2 ^ i) + bit_of v * 2 ^ i

-- the row r with its bits i and j exchanged
unfoldable pub swapped : ℕ → ℕ → ℕ → ℕ
swapped r i j = with_bit (with_bit r i (is_set r j)) j (is_set r i)

-- the function with variable i set to v
abbrev pub cofactor_rows : Rows → ℕ → Bool → Rows
cofactor_rows a i v = by_rows a.vars (λ r. row a (with_bit r i v))

-- the number whose bits are f 0, .., f (n - 1)
unfoldable pub number_by : (ℕ → Bool) → ℕ → ℕ
number_by f zero = 0
number_by f (suc n) = bit_of (f 0) + 2 * number_by (λ i. f (i + 1)) n

-- the row whose bit i is bit order[i] of r
abbrev pub moved : ℕ → List ℕ → ℕ → ℕ
moved r order n = number_by (λ i. is_set r (get_or order i 0)) n

-- the function g(x) = f(y) with y_i = x_order[i]
abbrev pub permute_rows : Rows → List ℕ → Rows
permute_rows a order = by_rows a.vars (λ r. row a (moved r order a.vars))

-- the function with unused variables added above, n in all
abbrev pub expand_rows : Rows → ℕ → Rows
expand_rows a n = by_rows n (λ r. row a (r % 2 ^ a.vars))

-- whether two tables are one: as many variables, and the same rows
abbrev pub equal_rows : Rows → Rows → Bool
equal_rows a b = (a.vars == b.vars) && pointwise beq a.bits b.bits

-- whether the function changes with variable i: whether its two cofactors by i differ
unfoldable pub depends_on : Rows → ℕ → Bool
depends_on a i = not (equal_rows (cofactor_rows a i false) (cofactor_rows a i true))

-- the variables that the function changes with, as the set bits of a number
abbrev pub support_of : Rows → ℕ
support_of a = number_by (depends_on a) a.vars
