use Rattle.std.proofs.Common.{refl}
use Rattle.lnet_blif.specs.Statements.{statement_at}
use Rattle.lnet_blif.proofs.laws.lines_of_no_form.Goals as goal

pub returns-clause-bytes : goal.returns-clause-bytes
unfolding statement_at
returns-clause-bytes c = (refl, refl, refl)

pub returns-clause-rows : goal.returns-clause-rows
unfolding statement_at
returns-clause-rows c = (refl, refl)

pub returns-clause-places : goal.returns-clause-places
unfolding statement_at
returns-clause-places c = (refl, refl, refl)
