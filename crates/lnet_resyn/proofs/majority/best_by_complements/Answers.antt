use Rattle.std.proofs.Common.{refl, arith}
use Rattle.lnet_resyn.specs.Majority.{best_of}
use Rattle.lnet_resyn.proofs.Best.{best-map-as}
use Rattle.lnet_resyn.proofs.majority.best_by_complements.Goals as goal

pub loop-complements-init : goal.loop-complements-init
unfolding best_of
loop-complements-init c = record { candidate = refl; inside = c.requires.best_inside; scored = c.requires.best }

pub loop-complements-preserved : goal.loop-complements-preserved
loop-complements-preserved c = record {
  candidate = best-map-as _ _ _ _ _ 0 c.loop-complements.complements c.loop-complements.complements (omega arith) c.loop-complements.invariant.candidate c.better-best.ensures.candidate;
  inside = c.better-best.ensures.inside;
  scored = c.better-best.ensures.scored;
}
