use Rattle.std.proofs.Common.{◌∙◌, arith}
use Rattle.lnet_tables.proofs.Ops.{same_rows}
use Rattle.lnet_tables.proofs.Constants.{few_rows}
use Rattle.lnet_tables.proofs.table.Table.variable.Goals as goal

pub returns : goal.returns
returns c =
    c.from_words.ensures ∙ same_rows c.args.vars _ _ (λ r lt. c.variable_words.ensures r (omega (arith, few_rows c.args.vars c.requires.few)))
