use Rattle.std.proofs.Common.{arith}
use Rattle.lnet_npn.proofs.Chosen.{below_more, among_more}
use Rattle.lnet_npn.proofs.canonical.least_of.Goals as goal

pub loop-image-preserved : goal.loop-image-preserved
loop-image-preserved c = record {
  best = omega arith;
  below = below_more _ _ _ _ c.least_of_three-least.ensures c.loop-image.invariant.below;
  made = among_more _ _ _ _ _ (omega arith) c.least_of_three-least.ensures c.loop-image.invariant.made;
}
