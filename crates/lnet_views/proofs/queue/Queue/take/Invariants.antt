use Rattle.std.proofs.Common.{◌≡◌, ◌≤◌, ◌-◌, length}
use Rattle.lnet_views.specs.Chains.{IsQueue}
use Rattle.lnet_views.proofs.queue.Queue.take.Given as goal

abbrev pub invariant-levels : goal.invariant-levels
invariant-levels l = record {
  queue : IsQueue l.self;
  rises : l.fn.self.floor ≤ l.self.floor;
  heads : length l.self.heads.items ≡ length l.fn.self.heads.items;
  same : l.self.levels.items ≡ l.fn.self.levels.items;
}

abbrev pub decreases-levels : goal.decreases-levels
decreases-levels l = length l.self.heads.items - l.self.floor
