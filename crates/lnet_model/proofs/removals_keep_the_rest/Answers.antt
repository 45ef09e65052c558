use Rattle.std.proofs.Common.{false}
use Rattle.lnet_model.specs.Values.{value_step}
use Rattle.lnet_model.specs.Levels.{level_step}
use Rattle.lnet_model.proofs.Removals.{remove-Acyclic, remove-over}
use Rattle.lnet_model.proofs.removals_keep_the_rest.Goals as goal

pub returns : goal.returns
returns c = record {
  acyclic = remove-Acyclic;
  values = λ N k acyclic unread a n ne. remove-over N k (value_step a) false acyclic unread n ne;
  levels = λ N k acyclic unread n ne. remove-over N k level_step 0 acyclic unread n ne;
}
