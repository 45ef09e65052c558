use Rattle.std.proofs.Common.{refl}
use Rattle.lnet_blif.specs.Statements.{statement_at}
use Rattle.lnet_blif.proofs.laws.lines_of_each_form.Goals as goal

pub returns-clause-ports : goal.returns-clause-ports
unfolding statement_at
returns-clause-ports c = refl

pub returns-clause-covers : goal.returns-clause-covers
unfolding statement_at
returns-clause-covers c = refl
