use Rattle.lnet_gates.proofs.LaidInTurn.{most_laid}
use Rattle.lnet_gates.proofs.laying.most.Goals as goal

pub returns : goal.returns
returns c = most_laid _ _ _ _ _ _ _ _ _ _ _ _ _ c.and-both.ensures c.or-some.ensures c.and-third.ensures c.or.ensures
