use Rattle.lnet_hashed.specs.Watches.{IsBare}
use Rattle.std.proofs.Common.{◌≡◌, drop}
use Rattle.lnet_model.specs.Networks.{IsLive}
use Rattle.lnet_model.specs.Along.{nodes_read}
use Rattle.lnet_model.specs.Changes.{AreLive}
use Rattle.lnet_rules.specs.Rules.{rows_from, rows_built}
use Rattle.lnet_rules.specs.Live.{KeepsLive}
use Rattle.lnet_rules.proofs.rows.add_rows.Given as goal

abbrev pub invariant-loop-k : goal.invariant-loop-k
invariant-loop-k g l = record {
  so_far : rows_from g.G.Gates.KIND (record { network = l.net.core.network; signal = l.built }) (drop l.k l.cover.rows) l.operands ≡ rows_built g.G.Gates.KIND l.fn.net.core.network l.cover.rows l.operands;
  built_live : IsLive l.net.core.network l.built.node.0;
  live : AreLive l.net.core.network (nodes_read l.operands);
  keeps : KeepsLive l.fn.net.core.network l.net.core.network;
  none : IsBare l.net.watch;
}
