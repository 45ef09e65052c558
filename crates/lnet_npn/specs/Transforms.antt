-- Transforms of functions of four variables, and the classes that they make: the order of the variables, complements of
-- variables, and a complement of the value (S. W. Golomb, "On the classification of Boolean functions", IRE Transactions
-- on Circuit Theory 6, 1959).
use Rattle.std.specs.Prelude.{ℕ, ◌≡◌, ◌≢◌, ◌+◌, ◌*◌, ◌<◌, ◌≤◌, length, Bool, not, cond, List, [], ◌∷◌, ◌==◌, nat_lt, IsTrue}
use mathlib.Core.Bool.{◌&&◌}
use lib.ListN.{get_or}
use Rattle.lnet_tables.specs.Bits.{Rows, row, by_rows, is_set, bit_of, bit_xor2, number_by, moved}
use Rattle.lnet_npn.specs.declared.transforms.Transform.{Transform}

-- the row of the old function that row x of the new one reads: bit i is bit order[i] of x, complemented where bit i of
-- the flips is set
unfoldable pub source_of : Transform → ℕ → ℕ
source_of t x = number_by (λ i. bit_xor2 (is_set t.flips i) (is_set x (get_or t.order i 0))) 4

-- the table that a transform makes
abbrev pub transformed : Transform → Rows → Rows
transformed t a = by_rows 4 (λ x. bit_xor2 t.out (row a (source_of t x)))

-- whether a list is 0 to 3 in some order: four numbers, each below 4, no two of them the same
abbrev pub is_order : List ℕ → Bool
is_order o =
    let a : ℕ = get_or o 0 0 in
    let b : ℕ = get_or o 1 0 in
    let c : ℕ = get_or o 2 0 in
    let d : ℕ = get_or o 3 0 in
    (length o == 4)
    && ((nat_lt a 4 && (nat_lt b 4 && (nat_lt c 4 && nat_lt d 4)))
    && (not (a == b) && (not (a == c) && (not (a == d) && (not (b == c) && (not (b == d) && not (c == d)))))))

-- a lawful transform, one of 768
pub record IsTransform (t : Transform) : Type 0 where
  pub order : IsTrue (is_order t.order)
  pub flips : t.flips < 16

-- where a variable stands in an order
unfoldable pub place_in : List ℕ → ℕ → ℕ
place_in o v = cond (get_or o 0 0 == v) 0 (cond (get_or o 1 0 == v) 1 (cond (get_or o 2 0 == v) 2 3))

-- the order that undoes an order: each variable is put at its place
unfoldable pub undone : List ℕ → List ℕ
undone o = place_in o 0 ∷ place_in o 1 ∷ place_in o 2 ∷ place_in o 3 ∷ []

-- the transform that takes each transformed function back: variable v is read where it stood, with the complement that
-- it had there
abbrev pub inverse_of : Transform → Transform
inverse_of t = record { order = undone t.order; flips = moved t.flips (undone t.order) 4; out = t.out }

-- the row x with the bits of f complemented
unfoldable pub turned : ℕ → ℕ → ℕ
turned f x = number_by (λ i. bit_xor2 (is_set f i) (is_set x i)) 4

-- ---- classes
-- a table of four variables as a number: row r is bit r
abbrev pub number_of : Rows → ℕ
number_of a = number_by (row a) 16

-- what a transform makes of a table that is given as a number
unfoldable pub image_of : Transform → ℕ → ℕ
image_of t n = number_by (λ x. bit_xor2 t.out (is_set n (source_of t x))) 16

-- the number by which transforms are compared: by the order as a list, then the flips, then the complement of the value
unfoldable pub rank_of : Transform → ℕ
rank_of t =
    bit_of t.out + 2 * (t.flips + 16 * (get_or t.order 3 0 + 4 * (get_or t.order 2 0 + 4 * (get_or t.order 1 0 + 4 * get_or t.order 0 0))))

-- the table b is of the class of a: some transform makes it
pub record IsOfClass (a b : Rows) : Type 0 where
  pub by : Transform
  pub lawful : IsTransform by
  pub makes : b ≡ transformed by a

-- the least table of the class of a, as a number
pub record IsLeastOf (a b : Rows) : Type 0 where
  pub here : IsOfClass a b
  pub least : (t : Transform) → IsTransform t → number_of b ≤ number_of (transformed t a)

-- the first transform that makes a of b
pub record IsFirst (t : Transform) (b a : Rows) : Type 0 where
  pub lawful : IsTransform t
  pub makes : transformed t b ≡ a
  pub first : (u : Transform) → IsTransform u → rank_of u < rank_of t → transformed u b ≢ a
