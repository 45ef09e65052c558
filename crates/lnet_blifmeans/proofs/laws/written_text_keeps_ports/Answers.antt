use Rattle.lnet_blifmeans.proofs.Reading.{read_inputs, read_output_names, read_counts}
use Rattle.lnet_blifmeans.proofs.laws.written_text_keeps_ports.Goals as goal

pub returns-clause-counts : goal.returns-clause-counts
returns-clause-counts c = λ written read has means. read_counts written read has means

pub returns-clause-inputs : goal.returns-clause-inputs
returns-clause-inputs c = λ written read has means. read_inputs written read has means

pub returns-clause-outputs : goal.returns-clause-outputs
returns-clause-outputs c = λ written read has means. read_output_names written read has means
