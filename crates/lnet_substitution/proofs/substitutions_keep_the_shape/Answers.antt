use Rattle.lnet_substitution.proofs.Substituted.{substituted-Acyclic, substituted-IsWhole, substituted-IsStrashed, substituted-IsTidy}
use Rattle.lnet_substitution.proofs.substitutions_keep_the_shape.Goals as goal

pub returns-clause-acyclic : goal.returns-clause-acyclic
returns-clause-acyclic c kind N o s Q can h = substituted-Acyclic kind N o s can Q h

pub returns-clause-whole : goal.returns-clause-whole
returns-clause-whole c kind N o s Q can h = substituted-IsWhole kind N o s can Q h

pub returns-clause-strashed : goal.returns-clause-strashed
returns-clause-strashed c kind N o s Q can h = substituted-IsStrashed kind N o s can Q h

pub returns-clause-tidy : goal.returns-clause-tidy
returns-clause-tidy c kind N o s Q can h tidy = substituted-IsTidy kind N o s can Q h tidy
