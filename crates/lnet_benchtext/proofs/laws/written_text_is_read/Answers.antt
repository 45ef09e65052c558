use Rattle.lnet_benchtext.proofs.Forms.{written-read}
use Rattle.lnet_benchtext.proofs.laws.written_text_is_read.Goals as goal

pub returns : goal.returns
returns c = λ circuit names plain arities. written-read circuit names plain arities
