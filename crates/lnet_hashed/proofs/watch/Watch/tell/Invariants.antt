use Rattle.std.proofs.Common.{◌≡◌, ◌≤◌, ℕ, None, IfSome, length, slice_index_or, ◌<◌}
use Rattle.lnet_model.specs.Changes.{was}
use Rattle.lnet_hashed.specs.Views.{Fits, Kept, SlotsKept}
use Rattle.lnet_hashed.proofs.watch.Watch.tell.Given as goal

-- the views below i are in step with the network, and the others with the one before
abbrev pub invariant-loop-i : goal.invariant-loop-i
invariant-loop-i g l = record {
  told :
      (k : ℕ) → k < l.i → IfSome (slice_index_or l.self.views.items k None)
      (Fits (λ b. (goal.View-dyn g (b.vtable, b.value)).spec_of b.value)
      (λ b. (goal.View-dyn g (b.vtable, b.value)).kept b.value)
      (λ b. (goal.View-dyn g (b.vtable, b.value)).room b.value) l.store.network l.numbers);
  left :
      (k : ℕ) → l.i ≤ k → IfSome (slice_index_or l.self.views.items k None)
      (Fits (λ b. (goal.View-dyn g (b.vtable, b.value)).spec_of b.value)
      (λ b. (goal.View-dyn g (b.vtable, b.value)).kept b.value)
      (λ b. (goal.View-dyn g (b.vtable, b.value)).room b.value) (was l.event l.store.network) l.numbers);
  same :
      SlotsKept
      (Kept (λ b. (goal.View-dyn g (b.vtable, b.value)).kind_of b.value) (λ b. (goal.View-dyn g (b.vtable, b.value)).spec_of b.value) (λ b. (goal.View-dyn g (b.vtable, b.value)).room b.value))
      l.fn.self.views.items l.self.views.items;
  counted : length l.self.visits.items ≡ length l.self.views.items;
}
