use Rattle.std.proofs.Common.{◌<◌, ◌+◌, ◌*◌, ◌^◌, ℕ, sym, subst, arith}
use Rattle.lnet_simulate.proofs.CompareLemmas.{block-agrees, block-differs}
use Rattle.lnet_simulate.proofs.comparing.first_difference.Goals as goal

pub returns-then-lanes-ne0-clause-differ : goal.returns-then-lanes-ne0-clause-differ
returns-then-lanes-ne0-clause-differ g c =
    let N = c.args.net.now.core.network in
    let fits : c.differing_lanes-lanes.result < 2 ^ 64 = omega arith in
    block-differs N c.args.n.0 c.args.s c.loop-block.block c.differing_lanes-lanes.result c.differing_lanes-lanes.ensures.lanes c.loop-block.invariant.agree fits c.if-lanes-ne0.true
    (λ j lt low.
    let count = c.input_count.ensures in
    subst (λ (k : ℕ). 64 * c.loop-block.block + j < 2 ^ k) count (c.block_count-block-end.ensures.within c.loop-block.block j c.loop-block-test.true lt (subst (λ (k : ℕ). j < 2 ^ k) (sym count) low)))

pub loop-block-preserved : goal.loop-block-preserved
loop-block-preserved g c = record {
  space = c.differing_lanes-lanes.ensures.space;
  few = c.differing_lanes-lanes.ensures.few;
  agree = block-agrees c.args.net.now.core.network c.args.n.0 c.args.s c.loop-block.block c.differing_lanes-lanes.result c.differing_lanes-lanes.ensures.lanes c.loop-block.invariant.agree c.if-lanes-ne0.false;
}
