use Rattle.std.specs.List.{sum_by}
use Rattle.lnet_sop.proofs.factoring.+lay.Given as goal

abbrev pub decreases-lay : goal.decreases-lay
decreases-lay l = sum_by (λ c. c.care) l.cubes.now
