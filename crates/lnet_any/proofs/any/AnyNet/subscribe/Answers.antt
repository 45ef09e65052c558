use Rattle.std.proofs.Common.{subst}
use Rattle.lnet_hashed.specs.Watches.{AreFitIn}
use Rattle.lnet_any.specs.AnyNets.{core_in, network_in, watch_in}
use Rattle.lnet_any.proofs.any.AnyNet.subscribe.Goals as goal

pub subscribe-requires-clause-in_step : goal.subscribe-requires-clause-in_step
subscribe-requires-clause-in_step g c = subst (λ a. AreFitIn (λ b. goal.View-dyn g (b.vtable, b.value)) (network_in a) (core_in a).room (watch_in a)) c.in-Aig.is c.requires.in_step

pub subscribe-requires-in-Xag-clause-in_step : goal.subscribe-requires-in-Xag-clause-in_step
subscribe-requires-in-Xag-clause-in_step g c = subst (λ a. AreFitIn (λ b. goal.View-dyn g (b.vtable, b.value)) (network_in a) (core_in a).room (watch_in a)) c.in-Xag.is c.requires.in_step

pub subscribe-requires-in-Mig-clause-in_step : goal.subscribe-requires-in-Mig-clause-in_step
subscribe-requires-in-Mig-clause-in_step g c = subst (λ a. AreFitIn (λ b. goal.View-dyn g (b.vtable, b.value)) (network_in a) (core_in a).room (watch_in a)) c.in-Mig.is c.requires.in_step

pub subscribe-requires-in-Klut-clause-in_step : goal.subscribe-requires-in-Klut-clause-in_step
subscribe-requires-in-Klut-clause-in_step g c = subst (λ a. AreFitIn (λ b. goal.View-dyn g (b.vtable, b.value)) (network_in a) (core_in a).room (watch_in a)) c.in-Klut.is c.requires.in_step
