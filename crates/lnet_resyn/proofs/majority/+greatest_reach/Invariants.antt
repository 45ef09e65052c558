use Rattle.std.proofs.Common.{length}
use Rattle.lnet_resyn.proofs.majority.+greatest_reach.Given as goal

abbrev pub decreases-greatest_reach : goal.decreases-greatest_reach
decreases-greatest_reach l = length l.pool.now
