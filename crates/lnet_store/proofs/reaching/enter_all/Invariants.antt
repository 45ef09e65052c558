use Rattle.std.proofs.Common.{◌≡◌, take, length}
use Rattle.std.specs.Vec.{vec_capacity}
use Rattle.lnet_model.specs.Along.{nodes_read}
use Rattle.lnet_store.specs.Search.{AreMarked, Enters}
use Rattle.lnet_store.proofs.reaching.enter_all.Given as goal

abbrev pub invariant-signals : goal.invariant-signals
invariant-signals l = AreMarked l.marks.items l.queue.items × Enters l.fn.queue.items l.queue.items (nodes_read (take l.signal-index l.signals)) × (length l.marks.items ≡ length l.fn.marks.items) × (vec_capacity l.queue ≡ vec_capacity l.fn.queue)
