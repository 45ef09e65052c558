use Rattle.lnet_substitution.proofs.Substituted.{substituted-outputs, substituted-same}
use Rattle.lnet_substitution.proofs.substitutions_keep_outputs.Goals as goal

pub returns-clause-replaced : goal.returns-clause-replaced
returns-clause-replaced c kind N o s Q can h a = substituted-outputs kind N o s can Q h a

pub returns-clause-equal : goal.returns-clause-equal
returns-clause-equal c kind N o s Q can h a same = substituted-same kind N o s can Q h a same
