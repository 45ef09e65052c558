-- What a literal of a growing recipe computes, as a function of the row of the leaves.
use Rattle.std.specs.Prelude.{ℕ, ◌≡◌, ◌^◌, ◌<◌, Bool, List, ◌++◌}
use Rattle.lnet_tables.specs.declared.step.Lit.{Lit}
use Rattle.lnet_tables.specs.declared.step.Step.{Step}
use Rattle.lnet_tables.specs.Recipes.{RecipeValue, place, next_place, run, lit_value, leaf_values}

-- the literal's place exists, and its value at each row is that of f
pub record Means (t : RecipeValue) (l : Lit) (f : ℕ → Bool) : Type 0 where
  pub inside : place l < next_place t
  pub value : (r : ℕ) → r < 2 ^ t.leaves → lit_value (run t.steps (leaf_values t.leaves r)) l ≡ f r

-- steps were added at the end
pub record Grows (old new : RecipeValue) : Type 0 where
  pub leaves : new.leaves ≡ old.leaves
  pub more : List Step
  pub steps : new.steps ≡ old.steps ++ more
