use Rattle.lnet_model.proofs.Settings.{outputs-kept, level-kept}
use Rattle.lnet_model.proofs.equal_gates_keep_the_rest.Goals as goal

pub returns : goal.returns
returns c = record {
  outputs = λ N k g cn cm same a. outputs-kept N k g cn cm a (same a);
  levels = level-kept;
}
