-- Plans: how an operation that the gates of a network don't have is laid by operations that they have. Source: the textbook
-- identities of And, Xor and majority, and the Shannon expansion of a table.
use Rattle.std.specs.Prelude.{◌≡◌, ◌≤◌, ℕ, ◌+◌, Bool, true, false, cond, List, [], ◌∷◌, map, All, IsTrue}
use Rattle.std.specs.List.{range_with_len}
use Rattle.lnet_tables.specs.Bits.{Rows, by_rows, is_set}
use Rattle.lnet_tables.specs.Recipes.{RecipeValue}
use Rattle.lnet_tables.specs.Shannon.{plain, shannon_of}
use Rattle.lnet_tables.specs.declared.step.Lit.{Lit}
use Rattle.lnet_tables.specs.declared.step.Step.{Step}
use Rattle.lnet_tables.specs.declared.step.StepOp.{StepOp}
use Rattle.lnet_tables.specs.declared.step.StepOp.TheVariants.{And as AndStep, Xor as XorStep, Maj as MajStep}
use Rattle.lnet_gates.specs.declared.gate.Kind.{Kind}
use Rattle.lnet_gates.specs.declared.gate.Kind.TheVariants.{Aig, Xag, Mig, Klut}
use Rattle.lnet_gates.specs.declared.gate.Op.{Op}
use Rattle.lnet_gates.specs.declared.gate.Op.TheVariants.{And, Xor, Maj, Lut}
use Rattle.lnet_gates.specs.declared.planning.Plan.{Plan}
use Rattle.lnet_gates.specs.declared.planning.Plan.TheVariants.{Native, Steps}
use Rattle.lnet_gates.specs.Gates.{operate}
use Rattle.lnet_gates.specs.Remade.{native_recipe}

-- ---- which operations a kind has
-- the gates of the kind have the operation
abbrev pub is_native : Kind → Op → Bool
is_native Aig And = true
is_native Xag And = true
is_native Xag Xor = true
is_native Mig Maj = true
is_native Klut op = true
is_native _ _ = false

-- a step's operation, as a gate's
abbrev pub op_of : StepOp → Op
op_of AndStep = And
op_of XorStep = Xor
op_of MajStep = Maj

-- an operation takes so many operands
abbrev pub Takes : Op → ℕ → Type 0
Takes And n = n ≡ 2
Takes Xor n = n ≡ 2
Takes Maj n = n ≡ 3
Takes (Lut t) n = n ≤ 6

-- ---- plans of operations
-- the table of a Lut of n operands
abbrev pub lut_rows : ℕ → ℕ → Rows
lut_rows n t = by_rows n (is_set t)

-- one step that reads every leaf
abbrev pub one_step : StepOp → ℕ → Lit → RecipeValue
one_step op n c = record { leaves = n; steps = record { op = op; a = plain 1; b = plain 2; c = c } ∷ []; root = plain (n + 1) }

-- an operation of n operands as a recipe: one step, or the Shannon expansion of a table
abbrev pub recipe_of : Op → ℕ → RecipeValue
recipe_of And n = one_step AndStep 2 (plain 0)
recipe_of Xor n = one_step XorStep 2 (plain 0)
recipe_of Maj n = one_step MajStep 3 (plain 3)
recipe_of (Lut t) n = shannon_of (lut_rows n t)

-- the plan of an operation of n operands
abbrev pub plan_of : Kind → Op → ℕ → Plan
plan_of kind op n = cond (is_native kind op) Native (Steps (native_recipe kind (recipe_of op n)))

-- ---- what a plan promises
-- the values of n operands at row r: operand i is bit i
abbrev pub operands_at : ℕ → ℕ → List Bool
operands_at n r = map (is_set r) (range_with_len 0 n)

-- the function of an operation of n operands, as a table
abbrev pub op_rows : Op → ℕ → Rows
op_rows op n = by_rows n (λ r. operate op (operands_at n r))

-- steps that the gates of the kind have
abbrev pub AllNative : Kind → List Step → Type 0
AllNative kind ss = All (λ s. IsTrue (is_native kind (op_of s.op))) ss

-- the plan is native
abbrev pub IsPlanNative : Plan → Type 0
IsPlanNative Native = Unit
IsPlanNative (Steps r) = ⊥

-- what holds of the recipe, if the plan is one
abbrev pub IfSteps : Plan → (RecipeValue → Type 0) → Type 0
IfSteps Native P = Unit
IfSteps (Steps r) P = P r
