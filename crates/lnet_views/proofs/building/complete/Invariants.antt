use Rattle.std.proofs.Common.{◌≡◌, ℕ, ◌+◌, ◌*◌, IsSome, None, get_or, length}
use Rattle.lnet_model.specs.Networks.{IsLive, live_count}
use Rattle.lnet_model.specs.Levels.{level}
use Rattle.lnet_views.specs.Building.{IsBuilding, undone, bottom, Falls, AreTodo}
use Rattle.lnet_views.proofs.building.complete.Given as goal

abbrev pub invariant-steps : goal.invariant-steps
invariant-steps g l = record {
  building : IsBuilding g.R.Value.PartialEq.eq (g.R.Rule.first_of l.rule) (g.R.Rule.gives l.rule) l.store.network l.kept.values.items l.kept.levels.items l.kept.queue.levels.items;
  len : length l.kept.levels.items ≡ length l.fn.kept.levels.items;
  queue : l.kept.queue ≡ l.fn.kept.queue;
  grows : (q : ℕ) → IsSome (get_or l.fn.kept.levels.items q None) → IsSome (get_or l.kept.levels.items q None);
  live : IsLive l.store.network l.at.0;
  todo : get_or l.kept.levels.items l.at.0 None ≡ None;
  lowest : bottom l.at l.stack.items ≡ l.fn.n.0;
  falls : Falls l.store.network l.at l.stack.items;
  rest : AreTodo l.store.network l.kept.levels.items l.stack.items;
}

abbrev pub decreases-steps : goal.decreases-steps
decreases-steps g l = undone l.kept.levels.items * (live_count l.store.network + 1) + level l.store.network l.at.0
