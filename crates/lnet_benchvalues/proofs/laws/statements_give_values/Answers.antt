use Rattle.lnet_benchvalues.proofs.NameValues.{statements_hold, constants_hold}
use Rattle.lnet_benchvalues.proofs.PortValues.{inputs_hold, outputs_hold}
use Rattle.lnet_benchvalues.proofs.laws.statements_give_values.Goals as goal

pub returns-clause-gates : goal.returns-clause-gates
returns-clause-gates c = λ ss a ordered is. statements_hold ss a ordered is

pub returns-clause-constants : goal.returns-clause-constants
returns-clause-constants c = λ ss a ordered is value. constants_hold ss a ordered is value

pub returns-clause-inputs : goal.returns-clause-inputs
returns-clause-inputs c = λ ss a ordered is. inputs_hold ss a ordered is

pub returns-clause-outputs : goal.returns-clause-outputs
returns-clause-outputs c = λ ss a. outputs_hold ss a
