use Rattle.std.proofs.Common.{refl}
use Rattle.std.specs.Fmt.{digits}
use Rattle.lnet_print.proofs.laws.worked_texts.Goals as goal

pub returns-clause-input : goal.returns-clause-input
unfolding digits
returns-clause-input c = refl

pub returns-clause-majority : goal.returns-clause-majority
unfolding digits
returns-clause-majority c = refl

pub returns-clause-table : goal.returns-clause-table
unfolding digits
returns-clause-table c = refl

pub returns-clause-wide : goal.returns-clause-wide
unfolding digits
returns-clause-wide c = refl

pub returns-clause-output : goal.returns-clause-output
unfolding digits
returns-clause-output c = refl
