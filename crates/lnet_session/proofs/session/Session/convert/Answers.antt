use Rattle.std.proofs.Common.{ap}
use Rattle.lnet_any.specs.AnyNets.{network_in}
use Rattle.lnet_session.specs.Sessions.{held_in, state_of}
use Rattle.lnet_session.proofs.Placed.{converts}
use Rattle.lnet_session.proofs.session.Session.convert.Goals as goal

pub returns-clause-converts : goal.returns-clause-converts
returns-clause-converts g c =
    converts c.place_circuit.result (state_of (λ b. goal.View-dyn g (b.vtable, b.value)) c.args.self.now) (state_of (λ b. goal.View-dyn g (b.vtable, b.value)) c.place_circuit.new.self) (record { network = network_in c.in-Some.place.network; names = c.in-Some.place.names }) c.args.kind c.in-Ok.circuit (ap held_in c.in-Some.is) c.in-Ok.ensures.circuit c.in-Ok.ensures.outputs c.place_circuit.ensures.places
