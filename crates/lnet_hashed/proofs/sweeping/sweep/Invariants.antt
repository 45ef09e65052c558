use Rattle.std.proofs.Common.{◌≡◌}
use Rattle.lnet_model.specs.Networks.{live_count}
use Rattle.lnet_hashed.specs.Swept.{IsTrimmed}
use Rattle.lnet_hashed.specs.Watches.{AreToldIn}
use Rattle.lnet_hashed.specs.Rooms.{HasRoom}
use Rattle.lnet_hashed.proofs.sweeping.sweep.Given as goal

abbrev pub invariant-passes : goal.invariant-passes
invariant-passes g l = record {
  trimmed : IsTrimmed l.initial.hashed.store.network l.hashed.store.network;
  room : HasRoom l.hashed;
  same : l.hashed.room ≡ l.initial.hashed.room;
  told : AreToldIn (λ b. goal.View-dyn g (b.vtable, b.value)) l.hashed.store.network l.hashed.room l.initial.watch l.watch;
}

abbrev pub decreases-passes : goal.decreases-passes
decreases-passes g l = live_count l.hashed.store.network
