use Rattle.lnet_benchmeans.proofs.Ordering.{ordered_driven, ordered_once, ordered_acyclic}
use Rattle.lnet_benchmeans.proofs.laws.ordered_statements_keep_the_rules.Goals as goal

pub returns-clause-driven : goal.returns-clause-driven
returns-clause-driven c = λ ss ordered. ordered_driven ss ordered

pub returns-clause-once : goal.returns-clause-once
returns-clause-once c = λ ss ordered. ordered_once ss ordered

pub returns-clause-acyclic : goal.returns-clause-acyclic
returns-clause-acyclic c = λ ss ordered. ordered_acyclic ss ordered
