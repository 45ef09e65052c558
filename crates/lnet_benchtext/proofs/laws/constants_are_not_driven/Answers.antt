use Rattle.lnet_benchtext.proofs.Constants.{gnd_undriven, vdd_undriven}
use Rattle.lnet_benchtext.proofs.laws.constants_are_not_driven.Goals as goal

pub returns : goal.returns
returns c = λ circuit names. (gnd_undriven circuit names, vdd_undriven circuit names)
