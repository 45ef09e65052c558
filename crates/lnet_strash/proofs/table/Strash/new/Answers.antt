use Rattle.std.proofs.Common.{ap}
use Rattle.lnet_strash.specs.Standing.{entry}
use Rattle.lnet_strash.proofs.table.Strash.new.Goals as goal

pub returns-clause-entries : goal.returns-clause-entries
unfolding entry
returns-clause-entries c = λ k. ap (λ t. entry t k) c.in_ok-chains.ensures.standing
