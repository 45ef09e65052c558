use Rattle.std.proofs.Common.{◌≡◌, ap, ◌∙◌, nat_eq, subst, ◌^◌}
use Rattle.indexmap.specs.IndexMap.{get}
use Rattle.lnet_tables.specs.Bits.{Rows}
use Rattle.lnet_tables.specs.Recipes.{RecipeValue, sim}
use Rattle.lnet_npn.specs.Transforms.{transformed, IsFirst}
use Rattle.lnet_npn.specs.Rewiring.{rewired}
use Rattle.lnet_resyn.specs.Procedures.{class_recipe}
use Rattle.lnet_resyn.proofs.Classing.{least-of, least-once, first-once, class-leaves, found-is, found-some}
use Rattle.lnet_resyn.proofs.classes.npn_proposal.Goals as goal

pub on_recipe-requires-clause-four : goal.on_recipe-requires-clause-four
on_recipe-requires-clause-four c =
    let g : Rows = c.canonise-least.result.0 in
    let least = least-of c.args.table g c.canonise-least.ensures.least in
    let is = found-is _ c.in-Some.recipe.now g (c.in-Some.ensures.value ∙ ap (λ n. get nat_eq c.args.cache.now.recipes n) c.word_of.ensures.value) (c.args.cache.now.holds g least) in
    ap (λ (r : RecipeValue). r.leaves) is ∙ class-leaves g least.four

pub returns-in-Some-clause-recipe : goal.returns-in-Some-clause-recipe
returns-in-Some-clause-recipe c = λ g w is_least is_first.
    let least = least-of c.args.table c.canonise-least.result.0 c.canonise-least.ensures.least in
    let is = found-is _ c.in-Some.recipe.now c.canonise-least.result.0 (c.in-Some.ensures.value ∙ ap (λ n. get nat_eq c.args.cache.now.recipes n) c.word_of.ensures.value) (c.args.cache.now.holds c.canonise-least.result.0 least) in
    let same : c.canonise-least.result.0 ≡ g = least-once c.args.table c.canonise-least.result.0 g c.requires (c.vars-vars.ensures.long ∙ ap (λ n. 2 ^ n) c.requires) c.canonise-least.ensures.least is_least in
    let back : c.canonise-least.result.1 ≡ w = first-once c.args.table g c.canonise-least.result.1 w (subst (λ b. IsFirst c.canonise-least.result.1 b c.args.table) same c.canonise-least.ensures.back) is_first in
    c.on_recipe.ensures.value ∙ (λ i. rewired (back i) ((is ∙ ap class_recipe same) i))

pub returns-in-Some-clause-function : goal.returns-in-Some-clause-function
returns-in-Some-clause-function c =
    let g : Rows = c.canonise-least.result.0 in
    let least = least-of c.args.table g c.canonise-least.ensures.least in
    let held = c.args.cache.now.holds g least in
    let is = found-is _ c.in-Some.recipe.now g (c.in-Some.ensures.value ∙ ap (λ n. get nat_eq c.args.cache.now.recipes n) c.word_of.ensures.value) held in
    c.on_recipe.ensures.function ∙ ap (transformed c.canonise-least.result.1) (ap sim is ∙ held.function) ∙ c.canonise-least.ensures.back.makes

pub returns-in-None-clause-used : goal.returns-in-None-clause-used
returns-in-None-clause-used c =
    let g : Rows = c.canonise-least.result.0 in
    let least = least-of c.args.table g c.canonise-least.ensures.least in
    absurd (found-some _ g (c.in-None.ensures.value ∙ ap (λ n. get nat_eq c.args.cache.now.recipes n) c.word_of.ensures.value) (c.args.cache.now.holds g least))
