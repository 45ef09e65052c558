use Rattle.lnet_sop.proofs.FormLaws.{halves_depend}
use Rattle.lnet_sop.proofs.laws.unused_variables_are_passed_over.Goals as goal

pub returns : goal.returns
returns c = halves_depend
