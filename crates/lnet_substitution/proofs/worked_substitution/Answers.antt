use Rattle.lnet_substitution.proofs.WorkedSubstitution.{can-worked, merged-worked, left-worked}
use Rattle.lnet_substitution.proofs.worked_substitution.Goals as goal

pub returns : goal.returns
returns c = record { can = can-worked; merges = merged-worked; substitutes = left-worked }
