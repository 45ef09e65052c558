use Rattle.lnet_hashed.specs.Watches.{IsBare}
use Rattle.std.proofs.Common.{◌≡◌, ◌<◌, ℕ, drop, get_or}
use Rattle.lnet_edge.specs.CircuitLists.{equation_views}
use Rattle.lnet_build.specs.Built.{Building, with_places}
use Rattle.lnet_build.specs.Signals.{AreSignalsLive, FitsPlace, Stand}
use Rattle.lnet_build.proofs.equations.build_equations.Given as goal

abbrev pub invariant-loop-place : goal.invariant-loop-place
invariant-loop-place g l = record {
  live : AreSignalsLive l.net.core.network l.signals;
  none : IsBare l.net.watch;
  reached : (b : Building) → Stand l.initial.net.core.network l.initial.signals b → (x : Building) × Stand l.net.core.network l.signals x × (with_places g.G.Gates.KIND (equation_views l.equations) x (drop l.place-index l.order) ≡ with_places g.G.Gates.KIND (equation_views l.equations) b l.order);
  words : (j d : ℕ) → j < l.place-index → FitsPlace (equation_views l.equations) (get_or l.order j d);
}
