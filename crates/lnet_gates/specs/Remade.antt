-- A recipe by the steps that the gates of a network have: each step is replaced by the steps of its plan. Source: the
-- substitution of straight-line programs.
use Rattle.std.specs.Prelude.{ℕ, ◌+◌, ◌%◌, cond, List, [], ◌∷◌, ◌++◌, map, ◌==◌}
use Rattle.std.specs.List.{range_with_len}
use lib.ListN.{get_or}
use Rattle.lnet_tables.specs.Recipes.{RecipeValue, place, next_place}
use Rattle.lnet_tables.specs.Shannon.{Laid, plain, other}
use Rattle.lnet_tables.specs.declared.step.Lit.{Lit}
use Rattle.lnet_tables.specs.declared.step.Step.{Step}
use Rattle.lnet_gates.specs.declared.gate.Kind.{Kind}
use Rattle.lnet_gates.specs.StepPlans.{step_plan}

-- what a literal becomes, where the list has the new literal of each place
abbrev pub renamed : List Lit → Lit → Lit
renamed lits l = cond (l.0 % 2 == 1) (other (get_or lits (place l) (record { 0 = 0 }))) (get_or lits (place l) (record { 0 = 0 }))

-- a recipe that grows, and the literal in it of each place of the recipe that it is made of
pub record Remaking : Type 0 where
  pub recipe : RecipeValue
  pub lits : List Lit

-- the recipe with these steps added, each by the steps of its plan
abbrev pub remade : Kind → List Step → RecipeValue → List Lit → Remaking
remade kind [] t lits = record { recipe = t; lits = lits }
remade kind (s ∷ ss) t lits =
    let x : Laid = step_plan kind s.op (next_place t) (renamed lits s.a) (renamed lits s.b) (renamed lits s.c) in
    remade kind ss (record t { steps = t.steps ++ x.steps }) (lits ++ x.root ∷ [])

-- the literals of the constant and of n leaves
abbrev pub leaf_lits : ℕ → List Lit
leaf_lits n = map plain (range_with_len 0 (n + 1))

-- a recipe, its root renamed
abbrev pub rooted : Remaking → Lit → RecipeValue
rooted x root = record { leaves = x.recipe.leaves; steps = x.recipe.steps; root = renamed x.lits root }

-- the recipe with each step replaced by the steps of its plan
abbrev pub native_recipe : Kind → RecipeValue → RecipeValue
native_recipe kind r =
    rooted (remade kind r.steps (record { leaves = r.leaves; steps = []; root = record { 0 = 0 } }) (leaf_lits r.leaves)) r.root
