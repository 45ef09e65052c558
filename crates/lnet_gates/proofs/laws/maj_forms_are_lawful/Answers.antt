use Rattle.lnet_gates.proofs.laws.maj_forms_are_lawful.Goals as goal
use Rattle.lnet_gates.specs.Lawful.MajLaws.{maj_laws}

pub returns : goal.returns
returns c = maj_laws
