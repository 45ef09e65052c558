use Rattle.std.proofs.Common.{arith}
use Rattle.lnet_resyn.proofs.Best.{best-flat-past, best-flat-none}
use Rattle.lnet_resyn.proofs.majority.best_by_second.Goals as goal

pub loop-second-init : goal.loop-second-init
loop-second-init c = record { candidate = best-flat-none _ _ _ c.args.first; inside = c.requires.best_inside; scored = c.requires.best }

pub loop-second-preserved : goal.loop-second-preserved
loop-second-preserved c = record {
  candidate = best-flat-past _ _ _ _ _ c.args.first c.loop-second.second (omega arith) c.loop-second.invariant.candidate c.best_by_third-best.ensures.candidate;
  inside = c.best_by_third-best.ensures.inside;
  scored = c.best_by_third-best.ensures.scored;
}
