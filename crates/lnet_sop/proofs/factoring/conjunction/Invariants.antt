use Rattle.std.proofs.Common.{Ok}
use Rattle.lnet_tables.specs.Recipes.{next_place}
use Rattle.lnet_tables.specs.Shannon.{Lays}
use Rattle.lnet_sop.specs.Factored.{conjunction}
use Rattle.lnet_sop.proofs.factoring.conjunction.Given as goal

abbrev pub invariant-loop-variable : goal.invariant-loop-variable
invariant-loop-variable l = Lays l.fn.recipe l.recipe (Ok l.lit) (conjunction l.variable (next_place l.fn.recipe) l.cube)
