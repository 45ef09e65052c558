use Rattle.std.proofs.Common.{◌∙◌, arith}
use Rattle.lnet_tables.specs.Bits.{is_set}
use Rattle.lnet_tables.proofs.WordRows.{first_row}
use Rattle.lnet_tables.proofs.Ops.{same_rows}
use Rattle.lnet_npn.proofs.words.table_of.Goals as goal

pub returns : goal.returns
returns c = c.from_words.ensures ∙ same_rows 4 _ (is_set c.args.word) (λ r lt. first_row _ r (omega arith))
