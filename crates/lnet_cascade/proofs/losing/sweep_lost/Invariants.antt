use Rattle.lnet_hashed.specs.Indexed.{AllClean}
use Rattle.lnet_hashed.specs.Watches.{AreToldIn}
use Rattle.lnet_cascade.specs.Cascading.{left}
use Rattle.lnet_cascade.specs.Losing.{Drops}
use Rattle.lnet_cascade.specs.Rooms.{StaysMidway}
use Rattle.lnet_cascade.proofs.losing.sweep_lost.Given as goal

abbrev pub invariant-lost : goal.invariant-lost
invariant-lost g l = record {
  drops : Drops l.fn.hashed.store.network l.fn.hashed.notes l.hashed.store.network;
  midway : StaysMidway l.fn.hashed l.hashed;
  clean : AllClean l.hashed.keys;
  told : AreToldIn (λ b. goal.View-dyn g (b.vtable, b.value)) l.hashed.store.network l.hashed.room l.fn.watch l.watch;
}

abbrev pub decreases-lost : goal.decreases-lost
decreases-lost g l = left l.hashed.store.network l.hashed.notes.lost
