use Rattle.std.proofs.Common.{◌≡◌, ℕ, ◌+◌, ◌*◌, ◌-◌, ◌≤◌, length}
use Rattle.lnet_model.specs.Networks.{IsGate}
use Rattle.lnet_model.specs.Changes.{with_entry}
use Rattle.lnet_views.specs.Chains.{waiting, IsQueue}
use Rattle.lnet_views.specs.Keeping.{height, IsTied, IsRunning, spread, all_fanouts}
use Rattle.lnet_views.proofs.repairing.repair.Given as goal

abbrev pub invariant-repairs : goal.invariant-repairs
invariant-repairs g l = record {
  running : IsRunning g.R.Value.PartialEq.eq (g.R.Rule.first_of l.rule) (g.R.Rule.gives l.rule) (with_entry l.look.network l.fn.n.0 (IsGate l.old)) l.look.network l.fn.n.0 l.fn.kept.values.items l.fn.kept.levels.items l.kept.values.items l.kept.levels.items l.kept.queue.levels.items;
  queue : IsQueue l.kept.queue;
  tied : IsTied l.kept.levels.items l.kept.queue.levels.items;
  low : (m : ℕ) → height l.kept.levels.items m ≤ length l.fn.kept.values.items;
  heads : length l.kept.queue.heads.items ≡ length l.fn.kept.queue.heads.items;
  len : length l.kept.values.items ≡ length l.fn.kept.values.items;
  stamp : l.visits.stamp ≡ l.fn.visits.stamp;
  count : l.visits.count + waiting l.kept.queue.levels.items ≤ l.fn.visits.count + (1 + 2 * spread g.R.Value.PartialEq.eq (g.R.Rule.first_of l.rule 0) l.look.network l.fn.kept.values.items l.fn.kept.levels.items l.kept.values.items l.kept.levels.items);
}

abbrev pub decreases-repairs : goal.decreases-repairs
decreases-repairs g l = (all_fanouts l.look.network - spread g.R.Value.PartialEq.eq (g.R.Rule.first_of l.rule 0) l.look.network l.fn.kept.values.items l.fn.kept.levels.items l.kept.values.items l.kept.levels.items) + waiting l.kept.queue.levels.items
