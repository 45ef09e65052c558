-- What makes a cover irredundant and its cubes prime (W. V. Quine, "The Problem of Simplifying Truth Functions", American
-- Mathematical Monthly 59, 1952).
use Rattle.std.specs.Prelude.{ℕ, ◌≡◌, ◌^◌, ◌<◌, false, List, IsTrue}
use Rattle.std.specs.List.{count_by}
use Rattle.lnet_tables.specs.Bits.{Rows, row, is_set, with_bit}
use Rattle.lnet_sop.specs.declared.cover.Cube.{Cube}
use Rattle.lnet_sop.specs.Covers.{holds}

-- a cube without its literal of variable i
abbrev pub without : ℕ → Cube → Cube
without i c = record { care = with_bit c.care i false; value = with_bit c.value i false }

-- a row of n variables at which a cube holds and a function is false
pub record Exceeds (n : ℕ) (upper : Rows) (c : Cube) : Type 0 where
  pub row_at : ℕ
  pub inside : row_at < 2 ^ n
  pub covered : IsTrue (holds n c row_at)
  pub off : row upper row_at ≡ false

-- a prime implicant of a function of n variables: the function is true wherever the cube holds, and that is so of none of
-- the cubes with one literal less
pub record IsPrime (n : ℕ) (upper : Rows) (c : Cube) : Type 0 where
  pub implies : (r : ℕ) → r < 2 ^ n → IsTrue (holds n c r) → IsTrue (row upper r)
  pub least : (i : ℕ) → i < n → IsTrue (is_set c.care i) → Exceeds n upper (without i c)

-- a cube that a cover needs: it holds at some row of the lower bound, and no other cube of the cover holds there
pub record IsNeeded (n : ℕ) (lower : Rows) (cs : List Cube) (c : Cube) : Type 0 where
  pub row_at : ℕ
  pub inside : row_at < 2 ^ n
  pub due : IsTrue (row lower row_at)
  pub covered : IsTrue (holds n c row_at)
  pub alone : count_by (λ d. holds n d row_at) cs ≡ 1
