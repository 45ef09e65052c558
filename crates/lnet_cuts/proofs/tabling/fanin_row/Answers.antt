use Rattle.std.proofs.Common.{◌<◌, ◌≤◌, arith}
use Rattle.lnet_cuts.proofs.TableRows.{fan-few, byte-of}
use Rattle.lnet_cuts.proofs.tabling.fanin_row.Goals as goal

pub overflow_mul-at : goal.overflow_mul-at
overflow_mul-at c = let h : c.loop-i.at < 64 = fan-few c.args.all.now c.args.row c.args.fanins.now c.args.cuts.now c.loop-i.i c.loop-i.at c.requires.few c.requires.same
    c.loop-i.invariant.value in record { fits = omega arith }

pub overflow_add-at : goal.overflow_add-at
overflow_add-at c =
    let h : c.loop-i.at < 64 = fan-few c.args.all.now c.args.row c.args.fanins.now c.args.cuts.now c.loop-i.i c.loop-i.at c.requires.few c.requires.same c.loop-i.invariant.value in
    let k : c.from.result ≤ 1 = byte-of _ c.from.result c.from.ensures in
    record { fits = omega arith }

pub returns-clause-few : goal.returns-clause-few
returns-clause-few c = fan-few c.args.all.now c.args.row c.args.fanins.now c.args.cuts.now c.loop-i.i c.loop-i.at c.requires.few c.requires.same c.loop-i.invariant.value
