use Rattle.std.proofs.Common.{◌≡◌, take}
use Rattle.lnet_sop.specs.Factored.{remainder}
use Rattle.lnet_sop.proofs.factoring.remainder.Given as goal

abbrev pub invariant-loop-cube : goal.invariant-loop-cube
invariant-loop-cube l = l.remainder.items ≡ remainder l.literal (take l.cube-index l.cubes)
