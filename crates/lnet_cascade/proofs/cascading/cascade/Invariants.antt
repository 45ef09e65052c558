use Rattle.std.proofs.Common.{◌≡◌, length}
use Rattle.lnet_hashed.specs.Watches.{AreToldIn}
use Rattle.lnet_cascade.specs.Marks.{OnlyGates}
use Rattle.lnet_cascade.specs.Cascading.{GoesOn, left}
use Rattle.lnet_cascade.specs.Rooms.{StaysMidway}
use Rattle.lnet_cascade.proofs.cascading.cascade.Given as goal

abbrev pub invariant-gates : goal.invariant-gates
invariant-gates g l = record {
  goes_on : GoesOn g.G.Gates.KIND l.fn.hashed.store.network l.fn.hashed.keys.dirty l.hashed.store.network l.hashed.keys.dirty;
  gates : OnlyGates l.hashed.store.network l.hashed.keys.dirty;
  midway : StaysMidway l.fn.hashed l.hashed;
  long : length l.hashed.keys.dirty ≡ length l.fn.hashed.keys.dirty;
  told : AreToldIn (λ b. goal.View-dyn g (b.vtable, b.value)) l.hashed.store.network l.hashed.room l.fn.watch l.watch;
}

abbrev pub decreases-gates : goal.decreases-gates
decreases-gates g l = left l.hashed.store.network l.hashed.keys.dirty
