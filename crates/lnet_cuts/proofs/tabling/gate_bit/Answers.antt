use Rattle.lnet_cuts.proofs.TableRows.{gate-value}
use Rattle.lnet_cuts.proofs.tabling.gate_bit.Goals as goal

pub returns : goal.returns
returns c = gate-value c.args.all.now c.args.row c.args.cuts.now c.gate.inside.op c.gate.inside.phase c.gate.inside.fanins.items c.as_slice.result.now c.args.gate.now c.fanin_row-at.result
    c.operate.result c.gate.view_is c.as_slice.ensures.value c.requires.same c.requires.arity c.fanin_row-at.ensures.value c.operate.ensures
