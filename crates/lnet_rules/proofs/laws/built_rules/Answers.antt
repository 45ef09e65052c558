use Rattle.lnet_rules.proofs.RuleValues.{rule-stands}
use Rattle.lnet_rules.proofs.laws.built_rules.Goals as goal

pub returns-clause-value : goal.returns-clause-value
returns-clause-value c kind N r ss arity fits stored live few a = (rule-stands kind N r ss arity fits stored live few).valued a

pub returns-clause-entries : goal.returns-clause-entries
returns-clause-entries c kind N r ss arity fits stored live few n here = (rule-stands kind N r ss arity fits stored live few).extends.entries n here

pub returns-clause-values : goal.returns-clause-values
returns-clause-values c kind N r ss arity fits stored live few a n here = (rule-stands kind N r ss arity fits stored live few).extends.values a n here
