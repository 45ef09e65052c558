use Rattle.lnet_blifmeans.proofs.Once.{driven_once}
use Rattle.lnet_blifmeans.proofs.laws.names_are_driven_once.Goals as goal

pub returns : goal.returns
returns c = λ circuit wires is. driven_once circuit wires is
