use Rattle.std.proofs.Common.{sym, ◌∙◌, nat_eq}
use Rattle.indexmap.specs.IndexMap.{get}
use Rattle.lnet_resyn.proofs.Classing.{held-marked, held-more, marked-of-less}
use Rattle.lnet_resyn.proofs.classes.add_class.Goals as goal

pub returns-then-is_set-clause-recipes : goal.returns-then-is_set-clause-recipes
returns-then-is_set-clause-recipes c = held-marked c.args.number c.args.marks.now.items (λ n. get nat_eq c.args.recipes.now n) c.requires.marks c.requires.recipes (sym c.is_set.ensures ∙ c.if-is_set.true)

pub returns-clause-marks : goal.returns-clause-marks
returns-clause-marks c = marked-of-less c.args.number c.args.marks.now.items _ c.requires.marks c.mark.ensures.only

pub returns-clause-recipes : goal.returns-clause-recipes
returns-clause-recipes c = held-more c.args.number c.table_of.result c.in_ok-recipe.recipe (λ n. get nat_eq c.args.recipes.now n) (λ n. get nat_eq c.insert.new.self n) c.requires.recipes c.table_of.ensures c.in_ok-recipe.ensures.recipe c.in_ok-recipe.ensures.function c.in_ok-insert.ensures.updates.0
