use Rattle.std.proofs.Common.{sym, ◌∙◌, arith}
use Rattle.lnet_tables.specs.Bits.{is_set}
use Rattle.lnet_tables.specs.declared.masks.TheConstants.{VARIABLES}
use Rattle.lnet_tables.proofs.Constants.{variables_agree, agree}
use Rattle.lnet_tables.proofs.WordRows.{first_row}
use Rattle.lnet_tables.proofs.masks.high_rows.Goals as goal

pub returns : goal.returns
returns c = λ r lt. sym (first_row _ r lt) ∙ agree (λ i r. is_set r i) VARIABLES variables_agree c.args.index (omega arith) _ r (omega arith)
