use Rattle.lnet_gates.proofs.laws.lut_forms_are_lawful.Goals as goal
use Rattle.lnet_gates.specs.Lawful.LutLaws.{lut_laws, same-form}
use Rattle.lnet_gates.proofs.LutKeys.{proper-form}
use Rattle.lnet_gates.proofs.LutOnly.{only-form}

pub returns : goal.returns
returns c = record { laws = lut_laws; canonical = same-form; proper = proper-form; only = only-form }
