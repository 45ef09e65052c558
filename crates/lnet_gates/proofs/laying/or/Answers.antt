use Rattle.lnet_gates.proofs.LaidInTurn.{or_laid}
use Rattle.lnet_gates.proofs.laying.or.Goals as goal

pub returns : goal.returns
returns c = or_laid _ _ _ _ _ _ _ _ _ c.complement.ensures.value c.complement-2.ensures.value c.complement-3.ensures.value c.complement-3.ensures.place c.and.ensures
