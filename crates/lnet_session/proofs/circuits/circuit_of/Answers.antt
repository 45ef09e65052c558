use Rattle.std.proofs.Common.{sym, ◌∙◌}
use Rattle.lnet_session.proofs.circuits.circuit_of.Goals as goal

pub returns-in-Ok-clause-ands : goal.returns-in-Ok-clause-ands
returns-in-Ok-clause-ands g c = λ is_aig. c.in-Ok.ensures.ands (sym c.kind-kind.ensures.kind ∙ is_aig)
