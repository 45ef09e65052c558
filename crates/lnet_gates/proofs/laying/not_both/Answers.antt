use Rattle.lnet_gates.proofs.LaidInTurn.{not_both_laid}
use Rattle.lnet_gates.proofs.laying.not_both.Goals as goal

pub returns : goal.returns
returns c = not_both_laid _ _ _ _ _ _ _ _ _ _ _ c.complement.ensures.value c.and-both.ensures c.or-some.ensures c.and.ensures
