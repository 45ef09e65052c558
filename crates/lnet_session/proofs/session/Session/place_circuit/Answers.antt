use Rattle.lnet_any.specs.AnyNets.{network_in}
use Rattle.lnet_session.specs.Sessions.{state_of}
use Rattle.lnet_session.proofs.Placed.{places}
use Rattle.lnet_session.proofs.session.Session.place_circuit.Goals as goal

pub returns-in-Ok-clause-places : goal.returns-in-Ok-clause-places
returns-in-Ok-clause-places g c =
    places c.put_in_place.result (state_of (λ b. goal.View-dyn g (b.vtable, b.value)) c.args.self.now) (state_of (λ b. goal.View-dyn g (b.vtable, b.value)) c.put_in_place.new.self) c.args.kind c.args.circuit.now (network_in c.in-Ok.network) c.in-Ok.names c.in-Ok.ensures.made c.in-Ok.ensures.names c.put_in_place.ensures.held c.put_in_place.ensures.roll c.put_in_place.ensures.reply
