-- What pushing the steps of a plan onto a recipe does.
use Rattle.std.specs.Prelude.{◌≡◌, ◌<◌, ℕ, List, ◌++◌, length}
use lib.ListN.{get_or}
use Rattle.lnet_tables.specs.Recipes.{RecipeValue, place, next_place}
use Rattle.lnet_tables.specs.Shannon.{Laid}
use Rattle.lnet_tables.specs.declared.step.Lit.{Lit}

-- the steps of x are added, and the literal reads them
pub record HasLaid (old new : RecipeValue) (lit : Lit) (x : Laid) : Type 0 where
  pub steps : new ≡ record { leaves = old.leaves; steps = old.steps ++ x.steps; root = old.root }
  pub root : lit ≡ x.root
  pub inside : place lit < next_place new
  pub few : new.leaves ≡ old.leaves

-- each literal's place is below n
pub record AllInside (n : ℕ) (lits : List Lit) : Type 0 where
  pub at : (p : ℕ) → p < length lits → place (get_or lits p (record { 0 = 0 })) < n
