use Rattle.std.proofs.Common.{subst}
use Rattle.lnet_hashed.specs.Watches.{AreFitIn}
use Rattle.lnet_any.specs.AnyNets.{core_in, network_in, watch_in}
use Rattle.lnet_any.proofs.any.AnyNet.substitute.Goals as goal

pub substitute-requires-clause-in_step : goal.substitute-requires-clause-in_step
substitute-requires-clause-in_step g c = subst (λ a. AreFitIn (λ b. goal.View-dyn g (b.vtable, b.value)) (network_in a) (core_in a).room (watch_in a)) c.in-Aig.is c.requires.in_step

pub substitute-requires-in-Xag-clause-in_step : goal.substitute-requires-in-Xag-clause-in_step
substitute-requires-in-Xag-clause-in_step g c = subst (λ a. AreFitIn (λ b. goal.View-dyn g (b.vtable, b.value)) (network_in a) (core_in a).room (watch_in a)) c.in-Xag.is c.requires.in_step

pub substitute-requires-in-Mig-clause-in_step : goal.substitute-requires-in-Mig-clause-in_step
substitute-requires-in-Mig-clause-in_step g c = subst (λ a. AreFitIn (λ b. goal.View-dyn g (b.vtable, b.value)) (network_in a) (core_in a).room (watch_in a)) c.in-Mig.is c.requires.in_step

pub substitute-requires-in-Klut-clause-in_step : goal.substitute-requires-in-Klut-clause-in_step
substitute-requires-in-Klut-clause-in_step g c = subst (λ a. AreFitIn (λ b. goal.View-dyn g (b.vtable, b.value)) (network_in a) (core_in a).room (watch_in a)) c.in-Klut.is c.requires.in_step
