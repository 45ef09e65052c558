use Rattle.std.proofs.Common.{rules}
use Rattle.lnet_tables.proofs.WordRows.{rows_within, rows_between}
use Rattle.lnet_tables.proofs.words.cofactor_words.Goals as goal

pub returns-then-index-lt6 : goal.returns-then-index-lt6
returns-then-index-lt6 c = λ r lt.
    let h = c.by_words.ensures r lt in
    rows_within c.args.words.now c.by_words.result r c.args.index c.args.value c.if-index-lt6.true (search rules)

pub returns-else-index-lt6 : goal.returns-else-index-lt6
returns-else-index-lt6 c = λ r lt.
    let h = c.by_words-else-index-lt6.ensures r lt in
    rows_between c.args.words.now c.by_words-else-index-lt6.result r c.args.index c.args.value c.if-index-lt6.false (search rules)
