use Rattle.lnet_bliftext.proofs.LineWords.{written-cut}
use Rattle.lnet_bliftext.proofs.laws.written_text_is_cut.Goals as goal

pub returns : goal.returns
returns c = λ circuit names. written-cut circuit names
