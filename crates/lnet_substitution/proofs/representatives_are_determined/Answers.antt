use Rattle.lnet_substitution.proofs.Substituted.{one-representative}
use Rattle.lnet_substitution.proofs.representatives_are_determined.Goals as goal

pub returns : goal.returns
returns c kind P M r q strashed acyclic closed R S n live = one-representative kind P M r q strashed acyclic closed R S n live
