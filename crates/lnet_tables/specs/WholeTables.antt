-- Steps on whole tables: the values of the places at all rows at once.
use Rattle.std.specs.Prelude.{ℕ, ◌≡◌, ◌%◌, ◌<◌, length, false, cond, List, [], ◌∷◌, ◌++◌, map, ◌==◌}
use Rattle.std.specs.List.{range_with_len}
use lib.ListN.{get_or}
use Rattle.lnet_tables.specs.Bits.{Rows, and_rows, xor_rows, not_rows, constant_rows, variable_rows}
use Rattle.lnet_tables.specs.declared.step.Lit.{Lit}
use Rattle.lnet_tables.specs.declared.step.StepOp.{StepOp}
use Rattle.lnet_tables.specs.declared.step.StepOp.TheVariants.{And, Xor, Maj}
use Rattle.lnet_tables.specs.declared.step.Step.{Step}
use Rattle.lnet_tables.specs.Recipes.{place}

-- the table where there is none
abbrev pub nothing : Rows
nothing = record { vars = 0; bits = [] }

-- a literal's table, from the tables of the places
unfoldable pub lit_rows : List Rows → Lit → Rows
lit_rows ts l = cond (l.0 % 2 == 1) (not_rows (get_or ts (place l) nothing)) (get_or ts (place l) nothing)

-- an operation's table, from its operands' tables
abbrev pub op_rows : StepOp → Rows → Rows → Rows → Rows
op_rows And a b c = and_rows a b
op_rows Xor a b c = xor_rows a b
op_rows Maj a b c = xor_rows (and_rows a b) (and_rows c (xor_rows a b))

-- a step's table, from the tables of the places before it
unfoldable pub step_rows : List Rows → Step → Rows
step_rows ts s = op_rows s.op (lit_rows ts s.a) (lit_rows ts s.b) (lit_rows ts s.c)

-- the tables of all places after these steps, from those before them
abbrev pub run_rows : List Step → List Rows → List Rows
run_rows [] ts = ts
run_rows (s ∷ ss) ts = run_rows ss (ts ++ step_rows ts s ∷ [])

-- the tables of the constant and of n leaves
unfoldable pub leaf_rows : ℕ → List Rows
leaf_rows n = constant_rows n false ∷ map (variable_rows n) (range_with_len 0 n)

-- all tables have n variables
pub record AllOf (n : ℕ) (ts : List Rows) : Type 0 where
  pub at : (p : ℕ) → p < length ts → (get_or ts p nothing).vars ≡ n
