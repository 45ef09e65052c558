use Rattle.std.proofs.Common.{◌≡◌, ◌≤◌, ◌+◌, ◌∷◌, false, reverse, length, drop}
use Rattle.lnet_gates.specs.Operands.{constant}
use Rattle.lnet_model.specs.Along.{nodes_read}
use Rattle.lnet_model.specs.Changes.{AreLive}
use Rattle.lnet_hashed.specs.Laid.{laid_steps}
use Rattle.lnet_hashed.specs.Undoing.{undone, IsUndoable}
use Rattle.lnet_hashed.specs.Watches.{AreToldIn}
use Rattle.lnet_hashed.specs.Rooms.{HasRoom}
use Rattle.lnet_hashed.proofs.laying.lay.Given as goal

abbrev pub invariant-loop-i : goal.invariant-loop-i
invariant-loop-i g l = record {
  laid : laid_steps g.G.Gates.KIND (drop l.i l.recipe.steps) l.hashed.store.network l.laying.places.items ≡ laid_steps g.G.Gates.KIND l.recipe.steps l.initial.hashed.store.network (constant false ∷ l.leaves);
  live : AreLive l.hashed.store.network (nodes_read l.laying.places.items);
  undoable : IsUndoable (reverse l.laying.added.items) l.hashed.store.network;
  undone_is : undone (reverse l.laying.added.items) l.hashed.store.network ≡ l.initial.hashed.store.network;
  few : length l.laying.added.items ≤ l.i;
  few_places : length l.laying.places.items ≡ 1 + length l.leaves + l.i;
  room : HasRoom l.hashed;
  grows : l.initial.hashed.room ≤ l.hashed.room;
  told : AreToldIn (λ b. goal.View-dyn g (b.vtable, b.value)) l.hashed.store.network l.hashed.room l.initial.watch l.watch;
}
