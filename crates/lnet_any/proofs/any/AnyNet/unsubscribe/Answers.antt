use Rattle.std.proofs.Common.{subst}
use Rattle.lnet_hashed.specs.Watches.{AreFitIn}
use Rattle.lnet_any.specs.AnyNets.{core_in, network_in, watch_in}
use Rattle.lnet_any.proofs.any.AnyNet.unsubscribe.Goals as goal

pub unsubscribe-requires : goal.unsubscribe-requires
unsubscribe-requires g c = record { in_step = subst (λ a. AreFitIn (λ b. goal.View-dyn g (b.vtable, b.value)) (network_in a) (core_in a).room (watch_in a)) c.in-Aig.is c.requires.in_step }

pub unsubscribe-requires-in-Xag : goal.unsubscribe-requires-in-Xag
unsubscribe-requires-in-Xag g c = record { in_step = subst (λ a. AreFitIn (λ b. goal.View-dyn g (b.vtable, b.value)) (network_in a) (core_in a).room (watch_in a)) c.in-Xag.is c.requires.in_step }

pub unsubscribe-requires-in-Mig : goal.unsubscribe-requires-in-Mig
unsubscribe-requires-in-Mig g c = record { in_step = subst (λ a. AreFitIn (λ b. goal.View-dyn g (b.vtable, b.value)) (network_in a) (core_in a).room (watch_in a)) c.in-Mig.is c.requires.in_step }

pub unsubscribe-requires-in-Klut : goal.unsubscribe-requires-in-Klut
unsubscribe-requires-in-Klut g c = record { in_step = subst (λ a. AreFitIn (λ b. goal.View-dyn g (b.vtable, b.value)) (network_in a) (core_in a).room (watch_in a)) c.in-Klut.is c.requires.in_step }
