use Rattle.std.proofs.Common.{false, rules}
use Rattle.lnet_gates.specs.declared.signal.Signal.{Signal}
use Rattle.lnet_store.proofs.CountLemmas.{read-In}
use Rattle.lnet_rules.proofs.JoinLemmas.{joined-next, joined-full, joined-end}
use Rattle.lnet_rules.proofs.joining.join_all.Goals as goal

abbrev none_yet : Signal
none_yet = record { node = record { 0 = 0 }; complement = false }

pub join_two-requires-clause-live_b : goal.join_two-requires-clause-live_b
join_two-requires-clause-live_b g c = c.loop-other.invariant.live _ (read-In c.args.others.now c.loop-other.other-index none_yet c.loop-other-test.true)

pub returns-in_err-joined-clause-full : goal.returns-in_err-joined-clause-full
returns-in_err-joined-clause-full g c past =
    joined-full g.G.Gates.KIND c.args.how _ c.args.others.now c.loop-other.other-index none_yet c.loop-other-test.true _ c.loop-other.invariant.so_far (c.join_two.ensures.full (search rules))

pub loop-other-preserved : goal.loop-other-preserved
loop-other-preserved g c = record {
  so_far = joined-next g.G.Gates.KIND c.args.how _ c.args.others.now c.loop-other.other-index none_yet c.loop-other-test.true _ c.loop-other.invariant.so_far _ c.in_ok-joined.ensures.built;
  joined_live = c.in_ok-joined.ensures.live;
  live = λ m i. c.in_ok-joined.ensures.keeps m (c.loop-other.invariant.live m i);
  keeps = λ n h. c.in_ok-joined.ensures.keeps n (c.loop-other.invariant.keeps n h);
  none = c.in_ok-joined.ensures.none;
}

pub returns-clause-built : goal.returns-clause-built
returns-clause-built g c = joined-end g.G.Gates.KIND c.args.how _ _ c.args.others.now c.loop-other.other-index c.loop-other-test.false c.loop-other.invariant.so_far
