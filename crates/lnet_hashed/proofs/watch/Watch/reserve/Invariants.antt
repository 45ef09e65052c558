use Rattle.std.proofs.Common.{◌≡◌, ℕ, None, IfSome, slice_index_or, ◌<◌}
use Rattle.lnet_hashed.specs.Views.{EachSlot, Fits, Kept, SlotsKept}
use Rattle.lnet_hashed.proofs.watch.Watch.reserve.Given as goal

-- the views below i have the room
abbrev pub invariant-loop-i : goal.invariant-loop-i
invariant-loop-i g l = record {
  fit :
      EachSlot (Fits (λ b. (goal.View-dyn g (b.vtable, b.value)).spec_of b.value)
      (λ b. (goal.View-dyn g (b.vtable, b.value)).kept b.value)
      (λ b. (goal.View-dyn g (b.vtable, b.value)).room b.value) l.store.network l.numbers) l.self.views.items;
  done :
      (k : ℕ) → k < l.i → IfSome (slice_index_or l.self.views.items k None)
      (Fits (λ b. (goal.View-dyn g (b.vtable, b.value)).spec_of b.value)
      (λ b. (goal.View-dyn g (b.vtable, b.value)).kept b.value)
      (λ b. (goal.View-dyn g (b.vtable, b.value)).room b.value) l.store.network l.more);
  same :
      SlotsKept
      (Kept (λ b. (goal.View-dyn g (b.vtable, b.value)).kind_of b.value) (λ b. (goal.View-dyn g (b.vtable, b.value)).spec_of b.value) (λ b. (goal.View-dyn g (b.vtable, b.value)).room b.value))
      l.fn.self.views.items l.self.views.items;
  counted : l.self.visits ≡ l.fn.self.visits;
}
