use Rattle.lnet_model.specs.Levels.{level_step}
use Rattle.lnet_model.proofs.Over.{over-unique}
use Rattle.lnet_model.proofs.Levels.{level-falls, level-small}
use Rattle.lnet_model.proofs.levels_by_their_equation.Goals as goal

pub returns : goal.returns
returns c = record {
  unique = λ N L acyclic solves n. over-unique N level_step 0 L acyclic solves n;
  falls = level-falls;
  small = level-small;
}
