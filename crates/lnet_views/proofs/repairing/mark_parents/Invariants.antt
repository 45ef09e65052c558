use Rattle.std.proofs.Common.{◌≡◌, ◌+◌, ◌*◌, ◌≤◌, length}
use Rattle.lnet_model.specs.Fanouts.{fan}
use Rattle.lnet_views.specs.Chains.{waiting, IsQueue}
use Rattle.lnet_views.specs.Keeping.{IsMarking, IsTied}
use Rattle.lnet_views.proofs.repairing.mark_parents.Given as goal

abbrev pub invariant-steps : goal.invariant-steps
invariant-steps l = record {
  marking : IsMarking l.look.network l.fn.n.0 l.fn.queue.levels.items l.queue.levels.items l.parents.rest;
  queue : IsQueue l.queue;
  tied : IsTied l.levels.items l.queue.levels.items;
  heads : length l.queue.heads.items ≡ length l.fn.queue.heads.items;
  floor : l.queue.floor ≡ l.fn.queue.floor;
  own : l.parents.stamp ≡ l.look.stamp;
  stamp : l.visits.stamp ≡ l.fn.visits.stamp;
  more : waiting l.queue.levels.items + length l.parents.rest ≤ waiting l.fn.queue.levels.items + length (fan l.look.network l.fn.n.0);
  count : l.visits.count + waiting l.queue.levels.items + 2 * length l.parents.rest ≤ l.fn.visits.count + waiting l.fn.queue.levels.items + 2 * length (fan l.look.network l.fn.n.0);
}

abbrev pub decreases-steps : goal.decreases-steps
decreases-steps l = length l.parents.rest
