use Rattle.std.proofs.Common.{◌∙◌, ap, arith}
use Rattle.lnet_tables.specs.Recipes.{RecipeValue, sim}
use Rattle.lnet_gates.specs.Remade.{native_recipe}
use Rattle.lnet_gates.proofs.RemadeMeans.{native_steps}
use Rattle.lnet_gates.proofs.PlanLaws.{plan_fits, plan_computes, plan_leaves, plan_short}
use Rattle.lnet_gates.proofs.gate.Kind.plan.Goals as goal

pub in_kind-requires : goal.in_kind-requires
in_kind-requires c = rw c.recipe_of-recipe.ensures (omega (arith, plan_fits c.args.self c.args.op.now c.args.arity c.requires))

pub returns-clause-steps : goal.returns-clause-steps
returns-clause-steps c = rw c.in_kind.ensures (native_steps c.args.self c.recipe_of-recipe.result)

pub returns-clause-leaves : goal.returns-clause-leaves
returns-clause-leaves c =
    ap (λ (r : RecipeValue). r.leaves) (c.in_kind.ensures ∙ ap (native_recipe c.args.self) c.recipe_of-recipe.ensures)
    ∙ plan_leaves c.args.self c.args.op.now c.args.arity c.requires

pub returns-clause-function : goal.returns-clause-function
returns-clause-function c =
    ap sim (c.in_kind.ensures ∙ ap (native_recipe c.args.self) c.recipe_of-recipe.ensures)
    ∙ plan_computes c.args.self c.args.op.now c.args.arity c.requires

pub returns-clause-few : goal.returns-clause-few
returns-clause-few c = rw (c.in_kind.ensures, c.recipe_of-recipe.ensures) (plan_short c.args.self c.args.op.now c.args.arity c.requires)
