use Rattle.lnet_gates.proofs.LaidInTurn.{either_laid}
use Rattle.lnet_gates.proofs.laying.either.Goals as goal

pub returns : goal.returns
returns c = either_laid _ _ _ _ _ _ _ _ _ _ _ _ c.complement.ensures.value c.complement-2.ensures.value c.and-left.ensures c.and-right.ensures c.or.ensures
