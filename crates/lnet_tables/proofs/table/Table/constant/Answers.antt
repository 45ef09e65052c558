use Rattle.std.proofs.Common.{◌∙◌, arith}
use Rattle.lnet_tables.proofs.Ops.{same_rows, bit_replicate, bit_zeros}
use Rattle.lnet_tables.proofs.Constants.{few_rows}
use Rattle.lnet_tables.proofs.table.Table.constant.Goals as goal
use Rattle.lnet_tables.proofs.table.Table.constant.Goals.{then-value, else-value}

pub returns : goal.returns
returns c =
    c.from_words.ensures ∙ same_rows c.args.vars _ _ (λ r lt. elim c.if-value.branch [
      | then-value w ↦ rw (w.words-is, w.if-value.true) (bit_replicate r (omega (arith, few_rows c.args.vars c.requires)))
      | else-value w ↦ rw (w.words-is, w.if-value.false) (bit_zeros r)
    ])
