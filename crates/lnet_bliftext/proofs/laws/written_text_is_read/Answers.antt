use Rattle.lnet_bliftext.proofs.Reading.{written-read}
use Rattle.lnet_bliftext.proofs.laws.written_text_is_read.Goals as goal

pub returns : goal.returns
returns c = λ circuit names. written-read circuit names
