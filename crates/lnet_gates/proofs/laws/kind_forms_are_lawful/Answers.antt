use Rattle.lnet_gates.proofs.laws.kind_forms_are_lawful.Goals as goal
use Rattle.lnet_gates.specs.Lawful.KindLaws.{kind_laws}
use Rattle.lnet_gates.specs.Lawful.AndPhases.{kind_phases}

pub returns-clause-laws : goal.returns-clause-laws
returns-clause-laws c = kind_laws

pub returns-clause-phase : goal.returns-clause-phase
returns-clause-phase c = kind_phases
