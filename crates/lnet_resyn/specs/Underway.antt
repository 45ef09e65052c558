-- What is known while the classes' recipes are made.
use Rattle.std.specs.Prelude.{◌≡◌, ℕ, ◌<◌, Bool, true, List, Option, Some}
use Rattle.lnet_tables.specs.Bits.{Rows}
use Rattle.lnet_tables.specs.Recipes.{RecipeValue, sim}
use Rattle.lnet_npn.specs.Transforms.{number_of}
use Rattle.lnet_npn.specs.Marks.{is_marked, IsImage}
use Rattle.lnet_resyn.specs.Procedures.{IsLeast, class_recipe}

-- m is of the class of a number below n
pub record IsOfLess (n m : ℕ) : Type 0 where
  pub of : ℕ
  pub below : of < n
  pub image : IsImage of m

-- each mark is of the class of a number below n
abbrev pub AreOfLess : ℕ → List Bool → Type 0
AreOfLess n marks = (m : ℕ) → is_marked marks m ≡ true → IsOfLess n m

-- the recipe of a class is there, and it computes the class's least table
pub record Holds (found : Option RecipeValue) (g : Rows) : Type 0 where
  pub recipe : found ≡ Some (class_recipe g)
  pub function : sim (class_recipe g) ≡ g

-- the classes whose least table is below n have their recipes
abbrev pub HoldBelow : ℕ → (ℕ → Option RecipeValue) → Type 0
HoldBelow n recipes = (g : Rows) → IsLeast g → number_of g < n → Holds (recipes (number_of g)) g
