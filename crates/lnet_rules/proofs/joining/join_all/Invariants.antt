use Rattle.lnet_hashed.specs.Watches.{IsBare}
use Rattle.std.proofs.Common.{◌≡◌, drop}
use Rattle.lnet_model.specs.Networks.{IsLive}
use Rattle.lnet_model.specs.Along.{nodes_read}
use Rattle.lnet_model.specs.Changes.{AreLive}
use Rattle.lnet_rules.specs.Joins.{joined_from}
use Rattle.lnet_rules.specs.Live.{KeepsLive}
use Rattle.lnet_rules.proofs.joining.join_all.Given as goal

abbrev pub invariant-loop-other : goal.invariant-loop-other
invariant-loop-other g l = record {
  so_far : joined_from g.G.Gates.KIND l.how (record { network = l.net.core.network; signal = l.joined }) (drop l.other-index l.others) ≡ joined_from g.G.Gates.KIND l.how (record { network = l.initial.net.core.network; signal = l.initial.joined }) l.others;
  joined_live : IsLive l.net.core.network l.joined.node.0;
  live : AreLive l.net.core.network (nodes_read l.others);
  keeps : KeepsLive l.initial.net.core.network l.net.core.network;
  none : IsBare l.net.watch;
}
