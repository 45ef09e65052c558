use Rattle.lnet_model.specs.Fanouts.{references}
use Rattle.lnet_hashed.specs.Watches.{AreToldIn}
use Rattle.lnet_cascade.specs.Marks.{MarkedMore}
use Rattle.lnet_cascade.specs.Redirections.{RedirectedSome, IsRedirected}
use Rattle.lnet_cascade.specs.Rooms.{StaysMidway}
use Rattle.lnet_cascade.proofs.redirecting.redirect_gates.Given as goal

-- some parents are redirected
abbrev pub invariant-parents : goal.invariant-parents
invariant-parents g l = record {
  redirected : RedirectedSome l.fn.hashed.store.network l.redirection.from.0 l.redirection.to l.hashed.store.network;
  dirty : MarkedMore (IsRedirected l.fn.hashed.store.network l.redirection.from.0 l.hashed.store.network) l.fn.hashed.keys.dirty l.hashed.keys.dirty;
  midway : StaysMidway l.fn.hashed l.hashed;
  told : AreToldIn (λ b. goal.View-dyn g (b.vtable, b.value)) l.hashed.store.network l.hashed.room l.fn.watch l.watch;
}

abbrev pub decreases-parents : goal.decreases-parents
decreases-parents g l = references l.hashed.store.network l.redirection.from.0
