use Rattle.lnet_gates.proofs.WordLemmas.{tied-row}
use Rattle.lnet_gates.proofs.words.tied.Goals as goal

pub returns : goal.returns
returns c = λ r lt.
    tied-row c.args.table c.cofactor_word-low.result c.cofactor_word-high.result c.low_rows-rows.result c.args.variable c.args.source r c.args.complement lt c.low_rows-rows.type_inv
    c.cofactor_word-low.ensures c.cofactor_word-high.ensures c.low_rows-rows.ensures
