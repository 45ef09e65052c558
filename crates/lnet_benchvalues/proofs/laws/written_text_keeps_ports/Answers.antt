use Rattle.lnet_benchvalues.proofs.TextMeans.{means_input_names, means_output_names}
use Rattle.lnet_benchvalues.proofs.laws.written_text_keeps_ports.Goals as goal

pub returns-clause-inputs : goal.returns-clause-inputs
returns-clause-inputs c = λ circuit read names is plain means. means_input_names circuit read names is plain means

pub returns-clause-outputs : goal.returns-clause-outputs
returns-clause-outputs c = λ circuit read names is plain means. means_output_names circuit read names is plain means
