-- Recipes as contracts see them, and what they compute: straight-line programs over the operations of D. E. Knuth,
-- "The Art of Computer Programming" 4A, section 7.1.2 (Boolean chains), with complemented operands and a majority.
use Rattle.std.specs.Prelude.{ℕ, ◌+◌, ◌/◌, ◌%◌, ◌<◌, ◌≤◌, length, Bool, true, false, cond, List, [], ◌∷◌, ◌++◌, map, ◌==◌, ◌&&◌}
use Rattle.std.specs.List.{range_with_len}
use lib.ListN.{get_or}
use Rattle.lnet_tables.specs.Bits.{Rows, by_rows, is_set, bit_xor2}
use Rattle.lnet_tables.specs.declared.step.Lit.{Lit}
use Rattle.lnet_tables.specs.declared.step.StepOp.{StepOp}
use Rattle.lnet_tables.specs.declared.step.StepOp.TheVariants.{And, Xor, Maj}
use Rattle.lnet_tables.specs.declared.step.Step.{Step}

-- a recipe: how many leaves it has, its steps in order, and the literal of its function
pub record RecipeValue : Type 0 where
  pub leaves : ℕ
  pub steps : List Step
  pub root : Lit

-- the place that a literal reads: 0 is false, then come the leaves, then the steps
abbrev pub place : Lit → ℕ
place l = l.0 / 2

-- the place of the next step
abbrev pub next_place : RecipeValue → ℕ
next_place r = r.leaves + 1 + length r.steps

-- an operation's value, from its operands' values
abbrev pub apply : StepOp → Bool → Bool → Bool → Bool
apply And a b c = a && b
apply Xor a b c = bit_xor2 a b
apply Maj a b c = cond a (cond b true c) (cond b c false)

-- a literal's value, from the values of the places
abbrev pub lit_value : List Bool → Lit → Bool
lit_value vs l = bit_xor2 (l.0 % 2 == 1) (get_or vs (place l) false)

-- a step's value, from the values of the places before it
abbrev pub step_value : List Bool → Step → Bool
step_value vs s = apply s.op (lit_value vs s.a) (lit_value vs s.b) (lit_value vs s.c)

-- the values of all places after these steps, from those before them
abbrev pub run : List Step → List Bool → List Bool
run [] vs = vs
run (s ∷ ss) vs = run ss (vs ++ step_value vs s ∷ [])

-- the values of the constant and of n leaves at row r: leaf i is bit i of r
unfoldable pub leaf_values : ℕ → ℕ → List Bool
leaf_values n r = false ∷ map (is_set r) (range_with_len 0 n)

-- the value of a recipe's root at row r of the leaves
abbrev pub root_value : RecipeValue → ℕ → Bool
root_value t r = lit_value (run t.steps (leaf_values t.leaves r)) t.root

-- the table of a recipe over its own leaves
abbrev pub sim : RecipeValue → Rows
sim t = by_rows t.leaves (root_value t)

-- a step reads places below n only
pub record StepFits (n : ℕ) (s : Step) : Type 0 where
  pub a : place s.a < n
  pub b : place s.b < n
  pub c : place s.c < n

-- a recipe within the limits, whose operands come before their steps and whose root exists
pub record IsRecipe (leaves : ℕ) (steps : List Step) (top : Lit) : Type 0 where
  pub few : leaves ≤ 10
  pub short : length steps ≤ 128
  pub each : (i : ℕ) (d : Step) → i < length steps → StepFits (leaves + 1 + i) (get_or steps i d)
  pub top_fits : place top < leaves + 1 + length steps
