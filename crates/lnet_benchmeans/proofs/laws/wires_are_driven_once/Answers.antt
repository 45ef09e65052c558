use Rattle.lnet_benchmeans.proofs.Wires.{never_twice}
use Rattle.lnet_benchmeans.proofs.laws.wires_are_driven_once.Goals as goal

pub returns : goal.returns
returns c = λ circuit wires is. never_twice circuit wires is
