use Rattle.lnet_gates.proofs.laws.and_forms_are_lawful.Goals as goal
use Rattle.lnet_gates.specs.Lawful.AndLaws.{and_laws, and-key_phase}

pub returns : goal.returns
returns c = record { laws = and_laws; phase = and-key_phase }
