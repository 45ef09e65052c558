use Rattle.std.proofs.Common.{◌≡◌, reverse, length}
use Rattle.lnet_hashed.specs.Undoing.{undone, IsUndoable}
use Rattle.lnet_hashed.specs.Watches.{AreToldIn}
use Rattle.lnet_hashed.specs.Rooms.{HasRoom}
use Rattle.lnet_hashed.proofs.laying.undo.Given as goal

abbrev pub invariant-loop-n : goal.invariant-loop-n
invariant-loop-n g l = record {
  undoable : IsUndoable (reverse l.added.items) l.hashed.store.network;
  network : undone (reverse l.added.items) l.hashed.store.network ≡ undone (reverse l.initial.added.items) l.initial.hashed.store.network;
  room : HasRoom l.hashed;
  same : l.hashed.room ≡ l.initial.hashed.room;
  told : AreToldIn (λ b. goal.View-dyn g (b.vtable, b.value)) l.hashed.store.network l.hashed.room l.initial.watch l.watch;
}

abbrev pub decreases-loop-n : goal.decreases-loop-n
decreases-loop-n g l = length l.added.items
