use Rattle.std.proofs.Common.{◌≡◌, ◌-◌, length}
use Rattle.std.specs.Vec.{vec_capacity}
use Rattle.std.specs.FinMap.{get, len}
use Rattle.lnet_store.specs.Search.{AreMarked, IsUnderway}
use Rattle.lnet_store.proofs.reaching.search.Given as goal

abbrev pub invariant-search : goal.invariant-search
invariant-search l = AreMarked l.marks.items l.queue.items × IsUnderway (get l.nodes.nodes) l.from l.queue.items l.head × (length l.marks.items ≡ length l.fn.marks.items) × (vec_capacity l.queue ≡ vec_capacity l.fn.queue)

abbrev pub decreases-search : goal.decreases-search
decreases-search l = len l.nodes.nodes - l.head
