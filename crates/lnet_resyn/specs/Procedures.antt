-- What the resynthesis procedures answer.
use Rattle.std.specs.Prelude.{◌≡◌, ◌≢◌, ◌≤◌, ◌^◌, ℕ, cond, length, leb, Option, Some, None}
use Rattle.lnet_tables.specs.Bits.{Rows}
use Rattle.lnet_tables.specs.Recipes.{RecipeValue}
use Rattle.lnet_tables.specs.Shannon.{shannon_of}
use Rattle.lnet_sop.specs.Isop.{isop_of}
use Rattle.lnet_sop.specs.Factored.{factored_of}
use Rattle.lnet_npn.specs.declared.transforms.Transform.{Transform}
use Rattle.lnet_npn.specs.Transforms.{IsTransform, transformed, number_of, IsLeastOf, IsFirst}
use Rattle.lnet_npn.specs.Rewiring.{rewired}
use Rattle.lnet_resyn.specs.declared.proposal.Law.{Law}
use Rattle.lnet_resyn.specs.declared.proposal.Law.TheVariants as laws
use Rattle.lnet_resyn.specs.declared.proposal.Proposal.{Proposal}
use Rattle.lnet_resyn.specs.declared.proposal.Proposal.TheVariants.{Use, None as Nothing, NoMemory}
use Rattle.lnet_resyn.specs.Majority.{majority_of}

-- a recipe that is to be used, and none where it has more than 128 steps
unfoldable pub proposal_of : RecipeValue → Proposal
proposal_of r = cond (leb (length r.steps) 128) (Use r) Nothing

-- the recipe of a proposal
abbrev pub recipe_in : Proposal → Option RecipeValue
recipe_in (Use r) = Some r
recipe_in Nothing = None
recipe_in NoMemory = None

-- the factored form of a function: of its irredundant sum of products
abbrev pub form_of : Rows → RecipeValue
form_of t = factored_of (isop_of t t)

-- the least table of its class
pub record IsLeast (g : Rows) : Type 0 where
  pub four : g.vars ≡ 4
  pub long : length g.bits ≡ 16
  pub least : (t : Transform) → IsTransform t → number_of g ≤ number_of (transformed t g)

-- the recipe of a class, by its least table: its factored form or its Shannon expansion, whichever has fewer steps, the
-- factored form where they have as many
unfoldable pub class_recipe : Rows → RecipeValue
class_recipe g = cond (leb (length (form_of g).steps) (length (shannon_of g).steps)) (form_of g) (shannon_of g)

-- the recipe of a function of four variables by its class: that of the class, rewired by the first transform that takes the
-- class's least table to the function
abbrev pub IsByClass : Rows → RecipeValue → Type 0
IsByClass t r = (g : Rows) (w : Transform) → IsLeastOf t g → IsFirst w g t → r ≡ rewired w (class_recipe g)

-- a table of n variables
pub record IsTable (n : ℕ) (t : Rows) : Type 0 where
  pub vars : t.vars ≡ n
  pub long : length t.bits ≡ 2 ^ t.vars

-- what a law allows as the answer for a table: what its procedure answers, or want of memory; under Foreign anything
pub record Allowed (law : Law) (t : Rows) (p : Proposal) : Type 0 where
  pub shannon : law ≡ laws.Shannon → p ≢ NoMemory → p ≡ proposal_of (shannon_of t)
  pub npn : law ≡ laws.Npn → p ≢ NoMemory → p ≢ Nothing
  pub npn_recipe : law ≡ laws.Npn → (r : RecipeValue) → p ≡ Use r → IsByClass t r
  pub majority : law ≡ laws.Majority → p ≢ NoMemory → p ≡ Use (majority_of t)
  pub factor : law ≡ laws.Factor → p ≢ NoMemory → p ≡ proposal_of (form_of t)

-- how many variables a law's closures can have
pub record IsWidth (law : Law) (width : ℕ) : Type 0 where
  pub least : 3 ≤ width
  pub greatest : width ≤ 10
  pub npn : law ≡ laws.Npn → width ≡ 4
  pub majority : law ≡ laws.Majority → width ≤ 4
