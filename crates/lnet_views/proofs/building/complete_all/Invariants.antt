use Rattle.std.proofs.Common.{◌≡◌, ℕ, ◌<◌, [], IsSome, None, get_or, length}
use Rattle.lnet_model.specs.Networks.{IsLive}
use Rattle.lnet_views.specs.Building.{IsBuilding}
use Rattle.lnet_views.proofs.building.complete_all.Given as goal

abbrev pub invariant-loop-i : goal.invariant-loop-i
invariant-loop-i g l = record {
  building : IsBuilding g.R.Value.PartialEq.eq (g.R.Rule.first_of l.rule) (g.R.Rule.gives l.rule) l.store.network l.kept.values.items l.kept.levels.items l.kept.queue.levels.items;
  len : length l.kept.levels.items ≡ length l.fn.kept.levels.items;
  queue : l.kept.queue ≡ l.fn.kept.queue;
  done : (m : ℕ) → m < l.i → IsLive l.store.network m → IsSome (get_or l.kept.levels.items m None);
  empty : l.stack.items ≡ [];
}
