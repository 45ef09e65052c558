use Rattle.lnet_substitution.proofs.Dropping.{drop-begins, drop-step, drop-ends}
use Rattle.lnet_substitution.proofs.lost_gates_go.Goals as goal

pub returns-clause-begin : goal.returns-clause-begin
returns-clause-begin c N P = drop-begins N P

pub returns-clause-step : goal.returns-clause-step
returns-clause-step c N P Q x S gate free had = drop-step N P Q S x gate free had

pub returns-clause-end : goal.returns-clause-end
returns-clause-end c N P Q S acyclic done = drop-ends N P Q S acyclic done
