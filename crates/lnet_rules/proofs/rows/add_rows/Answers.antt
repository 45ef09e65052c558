use Rattle.std.proofs.Common.{arith, rules}
use Rattle.lnet_rules.proofs.RowLemmas.{first-within, rows-step, rows-full, rows-end}
use Rattle.lnet_rules.proofs.rows.add_rows.Goals as goal

pub returns-in_err-built-clause-full : goal.returns-in_err-built-clause-full
returns-in_err-built-clause-full g c e =
    let past = c.build_row.ensures.full (search rules) in
    let more = first-within g.G.Gates.KIND c.args.net.now.core.network c.args.cover.now.rows c.args.operands.now c.row.result.now c.row.ensures.row in
    omega arith

pub returns-in_err-built-2-clause-full : goal.returns-in_err-built-2-clause-full
returns-in_err-built-2-clause-full g c e =
    rows-full g.G.Gates.KIND c.args.net.now.core.network c.args.cover.now.rows c.args.operands.now c.row-in-loop-k.result.now c.loop-k.k c.row-in-loop-k.ensures.row _ (record { network = c.loop-k.net.core.network; signal = c.loop-k.built }) c.loop-k.invariant.so_far (c.add_row.ensures.full (search rules))

pub loop-k-preserved : goal.loop-k-preserved
loop-k-preserved g c = record {
  so_far = rows-step g.G.Gates.KIND c.args.net.now.core.network c.args.cover.now.rows c.args.operands.now c.row-in-loop-k.result.now c.loop-k.k c.row-in-loop-k.ensures.row _ (record { network = c.loop-k.net.core.network; signal = c.loop-k.built }) c.loop-k.invariant.so_far _ c.in_ok-built-2.ensures.built;
  built_live = c.in_ok-built-2.ensures.live;
  live = λ m i. c.in_ok-built-2.ensures.keeps m (c.loop-k.invariant.live m i);
  keeps = λ n h. c.in_ok-built-2.ensures.keeps n (c.loop-k.invariant.keeps n h);
  none = c.in_ok-built-2.ensures.none;
}

pub returns-clause-built : goal.returns-clause-built
returns-clause-built g c =
    let past = c.loop-k-test.false in
    rows-end g.G.Gates.KIND (record { network = c.loop-k.net.core.network; signal = c.loop-k.built }) _ c.args.cover.now.rows c.args.operands.now c.loop-k.k (omega arith) c.loop-k.invariant.so_far
