use Rattle.lnet_generate.specs.Drawing.{generated}
use Rattle.lnet_session.specs.Sessions.{state_of}
use Rattle.lnet_session.proofs.Placed.{generates}
use Rattle.lnet_session.proofs.session.Session.generate.Goals as goal

pub returns-clause-generates : goal.returns-clause-generates
returns-clause-generates g c =
    generates c.place_circuit.result (state_of (λ b. goal.View-dyn g (b.vtable, b.value)) c.args.self.now) (state_of (λ b. goal.View-dyn g (b.vtable, b.value)) c.place_circuit.new.self) c.args.kind c.in-Ok.circuit (generated c.args.kind c.args.sizes.inputs c.args.sizes.gates c.args.sizes.outputs c.args.sizes.start) c.in-Ok.ensures.drawn c.place_circuit.ensures.places
