use Rattle.lnet_tables.specs.Bits.{is_set}
use Rattle.lnet_tables.specs.declared.masks.TheConstants.{VARIABLES}
use Rattle.lnet_tables.proofs.Constants.{variables_agree, agree}
use Rattle.lnet_tables.proofs.masks.variable_words.Goals as goal

pub returns : goal.returns
returns c = λ r lt. agree (λ i r. is_set r i) VARIABLES variables_agree c.args.index c.requires _ r lt
