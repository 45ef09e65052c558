use Rattle.lnet_hashed.specs.Watches.{AreFitIn}
use Rattle.lnet_test_networks.proofs.networks.build.Given as goal

abbrev pub invariant-loop : goal.invariant-loop
invariant-loop g l = AreFitIn (λ b. goal.View-dyn g (b.vtable, b.value)) l.network.core.network l.network.core.room l.network.watch

abbrev pub invariant-loop-row : goal.invariant-loop-row
invariant-loop-row g l = AreFitIn (λ b. goal.View-dyn g (b.vtable, b.value)) l.network.core.network l.network.core.room l.network.watch
