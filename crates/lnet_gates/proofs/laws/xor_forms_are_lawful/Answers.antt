use Rattle.lnet_gates.proofs.laws.xor_forms_are_lawful.Goals as goal
use Rattle.lnet_gates.specs.Lawful.XorLaws.{xor_laws}

pub returns : goal.returns
returns c = xor_laws
