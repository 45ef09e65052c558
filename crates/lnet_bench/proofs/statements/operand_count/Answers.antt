use Rattle.std.proofs.Common.{sym}
use Rattle.lnet_bench.proofs.Operands.{counted}
use Rattle.lnet_bench.proofs.statements.operand_count.Goals as goal

pub returns : goal.returns
returns c = record { value = rw c.commas.ensures.value (counted c.args.args.now (sym c.if-not-are_names.ensures)) }
