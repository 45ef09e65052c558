use Rattle.lnet_fanouts.proofs.Roomier.{list-emptied, live-emptied, slots-emptied}
use Rattle.lnet_fanouts.proofs.view.FanoutViewView.detach.Goals as goal

pub invariant_of-self : goal.invariant_of-self
invariant_of-self c = record {
  slots = slots-emptied c.args.self.now.pool c.clear.new.self c.args.self.now.live.items c.clear-2.new.live.items c.args.self.now.slots c.clear.ensures c.clear-2.ensures;
  silent = λ off n. live-emptied c.args.self.now.live.items c.clear-2.new.live.items n c.clear-2.ensures;
  empty = λ n off. list-emptied c.args.self.now.pool c.clear.new.self n c.clear.ensures;
}
