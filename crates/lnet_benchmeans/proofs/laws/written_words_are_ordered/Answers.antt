use Rattle.lnet_benchmeans.proofs.WordTexts.{written_words_ordered}
use Rattle.lnet_benchmeans.proofs.laws.written_words_are_ordered.Goals as goal

pub returns : goal.returns
returns c = λ circuit names wires is plain words. written_words_ordered circuit names wires is plain words
