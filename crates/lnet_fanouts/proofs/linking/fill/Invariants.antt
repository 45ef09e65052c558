use Rattle.std.proofs.Common.{◌≡◌, length}
use Rattle.lnet_model.specs.Networks.{entry_at}
use Rattle.lnet_fanouts.specs.FanoutViews.{AreListed, AreLive, HasSlots}
use Rattle.lnet_fanouts.proofs.Filling.{up_to}
use Rattle.lnet_fanouts.proofs.linking.fill.Given as goal

abbrev pub invariant-numbers : goal.invariant-numbers
invariant-numbers l = record {
  slots : HasSlots l.pool l.live.items;
  len : length l.live.items ≡ length l.fn.live.items;
  stamp : l.visits.stamp ≡ l.look.stamp;
  listed : AreListed l.pool (up_to (entry_at l.fn.store.network) l.i);
  living : AreLive l.live.items (up_to (entry_at l.fn.store.network) l.i);
}
