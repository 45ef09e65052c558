use Rattle.lnet_benchvalues.proofs.TextMeans.{written_means, means_in_file}
use Rattle.lnet_benchvalues.proofs.laws.written_text_means.Goals as goal

pub returns-clause-in_file : goal.returns-clause-in_file
returns-clause-in_file c = λ circuit names wires is plain fits. means_in_file circuit names wires is plain fits

pub returns-clause-with_room : goal.returns-clause-with_room
returns-clause-with_room c = λ circuit names wires is plain room. written_means circuit names wires is plain room
