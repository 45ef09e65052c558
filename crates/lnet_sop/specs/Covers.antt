-- Cubes, which are products of literals, and covers, which are sums of cubes (R. K. Brayton, G. D. Hachtel, C. T. McMullen
-- and A. L. Sangiovanni-Vincentelli, "Logic Minimization Algorithms for VLSI Synthesis", 1984).
use Rattle.std.specs.Prelude.{ℕ, zero, suc, ◌^◌, ◌<◌, ◌≤◌, length, Bool, true, cond, List, IsTrue, ◌&&◌, All}
use Rattle.std.specs.List.{list_any}
use mathlib.Core.Bool.{beq}
use Rattle.lnet_tables.specs.Bits.{Rows, by_rows, is_set}
use Rattle.lnet_sop.specs.declared.cover.Cube.{Cube}

-- a cover: its number of variables, and its cubes in order
pub record CoverValue : Type 0 where
  pub vars : ℕ
  pub cubes : List Cube

-- whether row r agrees with the cube's literal of variable i, where it has one
abbrev pub agrees : Cube → ℕ → ℕ → Bool
agrees c r i = cond (is_set c.care i) (beq (is_set c.value i) (is_set r i)) true

-- whether a cube of n variables holds at row r: the row agrees with each of its literals
unfoldable pub holds : ℕ → Cube → ℕ → Bool
holds zero c r = true
holds (suc n) c r = holds n c r && agrees c r n

-- whether some cube of n variables holds at row r
abbrev pub covers : ℕ → List Cube → ℕ → Bool
covers n cs r = list_any (λ c. holds n c r) cs

-- the function of a list of cubes of n variables: true where some cube holds
abbrev pub union_rows : ℕ → List Cube → Rows
union_rows n cs = by_rows n (covers n cs)

-- the function of a cover
abbrev pub cover_rows : CoverValue → Rows
cover_rows c = union_rows c.vars c.cubes

-- a cube of n variables: a variable that it gives a value is one that it cares about
pub record IsCube (n : ℕ) (c : Cube) : Type 0 where
  pub care : c.care < 2 ^ n
  pub value : c.value < 2 ^ n
  pub within : (i : ℕ) → IsTrue (is_set c.value i) → IsTrue (is_set c.care i)

-- a cover within the limits
pub record IsCover (vars : ℕ) (cubes : List Cube) : Type 0 where
  pub few : vars ≤ 10
  pub short : length cubes < 2 ^ 32
  pub each : All (IsCube vars) cubes
