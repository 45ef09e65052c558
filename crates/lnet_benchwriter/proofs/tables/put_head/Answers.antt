use Rattle.std.proofs.Common.{arith}
use Rattle.lnet_nodes.proofs.GatesAt.{few_variables}
use Rattle.lnet_benchwriter.proofs.tables.put_head.Goals as goal

pub put_digits-requires : goal.put_digits-requires
put_digits-requires c = let h = few_variables c.args.equation.now.operands.items in let e = c.requires.variables in let f = c.requires.few in omega arith
