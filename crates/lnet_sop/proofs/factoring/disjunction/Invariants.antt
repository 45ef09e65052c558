use Rattle.std.proofs.Common.{Ok}
use Rattle.lnet_tables.specs.Recipes.{next_place}
use Rattle.lnet_tables.specs.Shannon.{Lays}
use Rattle.lnet_sop.specs.Factored.{disjunction}
use Rattle.lnet_sop.proofs.factoring.disjunction.Given as goal

abbrev pub invariant-loop-cube : goal.invariant-loop-cube
invariant-loop-cube l = Lays l.fn.recipe l.recipe (Ok l.lit) (disjunction l.cube-index l.fn.recipe.leaves (next_place l.fn.recipe) l.cubes)
