use Rattle.std.proofs.Common.{refl}
use Rattle.lnet_resyn.proofs.Proposals.{used, unused-as}
use Rattle.lnet_resyn.proofs.plain.shannon_proposal.Goals as goal

pub returns-in-Ok-clause-recipe : goal.returns-in-Ok-clause-recipe
returns-in-Ok-clause-recipe c = used _ _ c.in-Ok.ensures.steps (c.in-Ok.ensures.fits.0 refl)

pub returns-in-Err-clause-recipe : goal.returns-in-Err-clause-recipe
returns-in-Err-clause-recipe c = unused-as _ c.in-Err.ensures.fits.1
