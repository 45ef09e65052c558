use Rattle.lnet_benchvalues.proofs.TextMeans.{means_outputs}
use Rattle.lnet_benchvalues.proofs.laws.written_text_keeps_outputs.Goals as goal

pub returns : goal.returns
returns c = λ circuit read names wires is plain means a. means_outputs circuit read names wires is plain means a
