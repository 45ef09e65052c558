use Rattle.std.proofs.Common.{◌∙◌, ◌≡◌, ap, rules, length}
use Rattle.std.proofs.lemmas.Bool.{false≢true}
use Rattle.lnet_tables.specs.Shannon.{shannon_of}
use Rattle.lnet_tables.specs.Recipes.{RecipeValue, sim}
use Rattle.lnet_tables.proofs.ShannonLaws.{shannon_function, laid_short}
use Rattle.lnet_tables.proofs.expansion.shannon.Goals as goal

pub returns-in_err-root-clause-small : goal.returns-in_err-root-clause-small
returns-in_err-root-clause-small c = λ few.
    absurd (false≢true (c.in_err-root.ensures.fits.1
    (laid_short c.args.table c.vars-vars.result c.new-recipe.result c.vars-vars.ensures.value (ap (λ (r : RecipeValue). length r.steps) c.new-recipe.ensures) few)))

pub returns-clause-function : goal.returns-clause-function
returns-clause-function c =
    let e : c.set_root.new.self ≡ shannon_of c.args.table = search rules in
    ap sim e ∙ shannon_function c.args.table c.vars-vars.ensures.long
