use Rattle.lnet_gates.proofs.WordLemmas.{unchanged-rows}
use Rattle.lnet_gates.proofs.words.changes.Goals as goal

pub returns : goal.returns
returns c =
    unchanged-rows c.args.table c.cofactor_word.result c.cofactor_word-2.result c.args.among c.args.variable c.ranges.among.fits c.cofactor_word.ensures c.cofactor_word-2.ensures
