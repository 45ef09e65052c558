use Rattle.std.proofs.Common.{None, Err, refl, ap, ◌∙◌}
use Rattle.lnet_session.specs.Sessions.{state_of}
use Rattle.lnet_session.proofs.Placed.{reads}
use Rattle.lnet_session.proofs.session.Session.load.Goals as goal

pub returns-in-Ok-clause-reads : goal.returns-in-Ok-clause-reads
returns-in-Ok-clause-reads g c =
    reads c.place_circuit.result (state_of (λ b. goal.View-dyn g (b.vtable, b.value)) c.args.self.now) (state_of (λ b. goal.View-dyn g (b.vtable, b.value)) c.place_circuit.new.self) c.args.format c.args.kind c.args.bytes.now c.in-Ok.circuit c.requires.short c.in-Ok.ensures.means c.place_circuit.ensures.places

pub returns-in-Err-Malformed-clause-reads : goal.returns-in-Err-Malformed-clause-reads
returns-in-Err-Malformed-clause-reads g c =
    rw c.in-Err-Malformed.field-0-is (None, (refl, c.requires.short, c.circuit_of.ensures.malformed c.in-Err-Malformed.broken (c.in-Err-Malformed.is ∙ ap Err c.in-Err-Malformed.field-0-is), refl))
