use Rattle.std.proofs.Common.{◌≡◌, take}
use Rattle.lnet_sop.specs.Factored.{uses}
use Rattle.lnet_sop.proofs.factoring.uses.Given as goal

abbrev pub invariant-loop-cube : goal.invariant-loop-cube
invariant-loop-cube l = l.count ≡ uses (take l.cube-index l.cubes) l.literal
