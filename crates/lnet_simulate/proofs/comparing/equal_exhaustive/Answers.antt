use Rattle.std.proofs.Common.{◌<◌, ◌^◌, ℕ, Bool, List, length, sym, subst, lit<}
use Rattle.lnet_gates.specs.declared.signal.Node.{Node}
use Rattle.lnet_model.specs.Dags.{numbers_of}
use Rattle.lnet_model.proofs.Numbers.{live-below-numbers}
use Rattle.lnet_simulate.specs.Assignments.{AgreeUnder}
use Rattle.lnet_simulate.specs.Comparing.{AgreeBelow}
use Rattle.lnet_simulate.specs.Cones.{InOrder, IsListed}
use Rattle.lnet_simulate.proofs.CompareLemmas.{all-pair, if-none, all-agree}
use Rattle.lnet_simulate.proofs.comparing.equal_exhaustive.Goals as goal

pub cone_of-requires : goal.cone_of-requires
cone_of-requires g c =
    let N = c.args.net.now.core.network in
    all-pair (λ (q : Node). q.0 < numbers_of N) c.args.n c.args.s.node (live-below-numbers N c.args.n.0 c.requires.node) (live-below-numbers N c.args.s.node.0 c.requires.signal)

pub first_difference-requires-clause-cone : goal.first_difference-requires-clause-cone
first_difference-requires-clause-cone g c =
    let N = c.args.net.now.core.network in
    let same = c.deref.ensures.value in
    record {
      ordered = subst (InOrder N) (sym same) c.in_ok-cone.ensures.order;
      node = subst (λ (o : List Node). IsListed o c.args.n.0) (sym same) (c.in_ok-cone.ensures.roots 0 c.args.n (lit< tt));
      signal = subst (λ (o : List Node). IsListed o c.args.s.node.0) (sym same) (c.in_ok-cone.ensures.roots 1 c.args.n (lit< tt));
    }

pub returns-clause-equal : goal.returns-clause-equal
returns-clause-equal g c =
    let N = c.args.net.now.core.network in
    if-none c.first_difference.result (AgreeBelow N c.args.n.0 c.args.s (2 ^ length N.inputs)) ((a : ℕ → Bool) → AgreeUnder N c.args.n.0 c.args.s a)
    (λ agree a. all-agree N c.args.n.0 c.args.s c.live_count-live.ensures.stored agree a) c.first_difference.ensures.equal
