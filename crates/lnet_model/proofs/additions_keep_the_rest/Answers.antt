use Rattle.std.proofs.Common.{false}
use Rattle.lnet_model.specs.Values.{value_step}
use Rattle.lnet_model.specs.Levels.{level_step}
use Rattle.lnet_model.proofs.Changes.{add-Acyclic, add-over}
use Rattle.lnet_model.proofs.additions_keep_the_rest.Goals as goal

pub returns : goal.returns
returns c = record {
  acyclic = λ N k e closed free live acyclic. add-Acyclic N k e closed free live acyclic;
  values = λ N k e closed free live acyclic a n ne. add-over N k e closed free live (value_step a) false acyclic n ne;
  levels = λ N k e closed free live acyclic n ne. add-over N k e closed free live level_step 0 acyclic n ne;
}
