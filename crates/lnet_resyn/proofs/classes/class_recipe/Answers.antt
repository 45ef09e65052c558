use Rattle.std.proofs.Common.{refl, ap, sym, ◌∙◌, ◌<◌, length, subst, Err}
use Rattle.lnet_sop.specs.Covers.{CoverValue}
use Rattle.lnet_sop.specs.Factored.{factored_of}
use Rattle.lnet_tables.specs.Recipes.{sim}
use Rattle.lnet_resyn.proofs.Proposals.{cover-between}
use Rattle.lnet_resyn.proofs.Classing.{chosen-is, expansion-is, chosen-means}
use Rattle.lnet_resyn.proofs.classes.class_recipe.Goals as goal

pub returns-in-Ok-factor-clause-recipe : goal.returns-in-Ok-factor-clause-recipe
returns-in-Ok-factor-clause-recipe c =
    c.shorter.ensures ∙ chosen-is c.args.table c.in-Ok-factor.form c.in-Ok.expansion (c.in-Ok-factor.ensures.form ∙ ap factored_of c.in_ok-cover.ensures.cubes) c.in-Ok.ensures.steps

pub returns-in-Ok-factor-clause-function : goal.returns-in-Ok-factor-clause-function
returns-in-Ok-factor-clause-function c =
    ap sim (sym (chosen-is c.args.table c.in-Ok-factor.form c.in-Ok.expansion (c.in-Ok-factor.ensures.form ∙ ap factored_of c.in_ok-cover.ensures.cubes) c.in-Ok.ensures.steps))
    ∙ chosen-means c.args.table c.in-Ok-factor.form c.in-Ok.expansion
    (c.in-Ok-factor.ensures.function ∙ cover-between c.args.table c.in_ok-cover.cover c.vars-vars.ensures.long c.in_ok-cover.ensures.cubes c.in_ok-cover.ensures.due c.in_ok-cover.ensures.within)
    c.in-Ok.ensures.function

pub returns-in-Err-Full-clause-recipe : goal.returns-in-Err-Full-clause-recipe
returns-in-Err-Full-clause-recipe c =
    expansion-is c.args.table c.in-Ok.expansion c.in-Ok.ensures.steps (c.in-Ok.ensures.fits.0 refl)
    (subst (λ (d : CoverValue). 128 < length (factored_of d).steps) c.in_ok-cover.ensures.cubes (c.in-Err-Full.ensures.full (ap Err c.in-Err-Full.field-0-is)))

pub returns-in-Err-Full-clause-function : goal.returns-in-Err-Full-clause-function
returns-in-Err-Full-clause-function c = ap sim (sym (returns-in-Err-Full-clause-recipe c)) ∙ c.in-Ok.ensures.function
