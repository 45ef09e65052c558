use Rattle.lnet_gates.proofs.Underway.{renamed_inside}
use Rattle.lnet_gates.proofs.planning.lay_renamed.Goals as goal

pub lay_step-requires-clause-a : goal.lay_step-requires-clause-a
lay_step-requires-clause-a c = rw c.renamed.ensures (renamed_inside _ _ _ c.requires.inside c.requires.fits.a)

pub lay_step-requires-clause-b : goal.lay_step-requires-clause-b
lay_step-requires-clause-b c = rw c.renamed-2.ensures (renamed_inside _ _ _ c.requires.inside c.requires.fits.b)

pub lay_step-requires-clause-c : goal.lay_step-requires-clause-c
lay_step-requires-clause-c c = rw c.renamed-3.ensures (renamed_inside _ _ _ c.requires.inside c.requires.fits.c)
