use Rattle.std.proofs.Common.{length, sym, ◌∙◌, arith}
use Rattle.lnet_fanouts.proofs.Roomier.{live-more, live-read, live-length, list-grown, slots-grown}
use Rattle.lnet_fanouts.proofs.view.FanoutView.grow.Goals as goal

pub grow-requires-clause-nodes : goal.grow-requires-clause-nodes
grow-requires-clause-nodes c =
    let slots = c.args.self.now.slots in
    let fewer = slots.fewer in
    let test = c.if-numbers-len.false in
    let len = c.len.ensures in
    c.lists_for-lists.ensures.enough (length c.args.self.now.pool.lists) (omega (arith, c.args.self.now.live.ok)) slots.few

pub grow-requires-clause-places : goal.grow-requires-clause-places
grow-requires-clause-places c =
    let slots = c.args.self.now.slots in
    let fewer = slots.fewer in
    let test = c.if-numbers-len.false in
    let len = c.len.ensures in
    let places = slots.places in
    let more = c.lists_for-lists.ensures.enough (length c.args.self.now.pool.lists) (omega (arith, c.args.self.now.live.ok)) slots.few in
    omega arith

pub invariant_of-self-2 : goal.invariant_of-self-2
invariant_of-self-2 c =
    let slots = c.args.self.now.slots in
    let old_fewer = slots.fewer in
    let test = c.if-numbers-len.false in
    let len = c.len.ensures in
    let len-2 = c.len-2.ensures in
    let lists = c.lists_for-lists.ensures in
    let list_fewer = lists.fewer in
    let more = lists.enough (length c.args.self.now.pool.lists) (omega (arith, c.args.self.now.live.ok)) slots.few in
    let longer = live-more c.args.self.now.live.items c.reserve.new.self.items c.extend.new.live.items _ c.reserve.ensures.items c.extend.ensures in
    let total = live-length c.args.self.now.live.items c.extend.new.live.items _ longer in
    record {
      slots = slots-grown c.args.self.now.pool c.grow.new.self c.args.self.now.live.items c.extend.new.live.items c.lists_for-lists.result more c.in_ok-grow.ensures.ok
          (omega (arith, c.args.self.now.live.ok)) lists.few (λ k low few. lists.enough k (omega (arith, c.args.self.now.live.ok)) few);
      silent = λ off n. live-read c.args.self.now.live.items c.extend.new.live.items _ n longer ∙ c.args.self.now.silent off n;
      empty = λ n off. list-grown c.args.self.now.pool c.grow.new.self _ _ n c.in_ok-grow.ensures.ok
          ∙ c.args.self.now.empty n (sym (live-read c.args.self.now.live.items c.extend.new.live.items _ n longer) ∙ off);
    }
