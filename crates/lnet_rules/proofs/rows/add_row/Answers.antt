use Rattle.std.proofs.Common.{arith}
use Rattle.lnet_rules.proofs.RowLemmas.{row-within}
use Rattle.lnet_rules.proofs.rows.add_row.Goals as goal

pub returns-in-Err-clause-full : goal.returns-in-Err-clause-full
returns-in-Err-clause-full g c e =
    let past = c.in-Err.ensures.full e in
    let more = row-within g.G.Gates.KIND (record { network = c.args.net.now.core.network; signal = c.args.before }) c.args.row.now c.args.operands.now in
    omega arith
