use Rattle.lnet_blifmeans.proofs.Reading.{read_outputs}
use Rattle.lnet_blifmeans.proofs.laws.written_text_keeps_outputs.Goals as goal

pub returns : goal.returns
returns c = λ written read has is plain means a. read_outputs written read has is plain means a
