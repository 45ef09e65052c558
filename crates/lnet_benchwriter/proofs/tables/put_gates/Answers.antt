use Rattle.lnet_nodes.proofs.GatesAt.{gate_at, few_at}
use Rattle.lnet_benchwriter.proofs.tables.put_gates.Goals as goal

pub put_line-requires-clause-gate : goal.put_line-requires-clause-gate
put_line-requires-clause-gate c = gate_at c.args.equations.now c.loop-equation.equation-index c.equation-item.result c.loop-equation-test.true c.equation-item.is c.requires.gates

pub put_line-requires-clause-few : goal.put_line-requires-clause-few
put_line-requires-clause-few c = few_at c.args.equations.now c.loop-equation.equation-index c.equation-item.result c.loop-equation-test.true c.equation-item.is c.requires.gates c.requires.arities
