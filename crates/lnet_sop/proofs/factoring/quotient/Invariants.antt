use Rattle.std.proofs.Common.{◌≡◌, take}
use Rattle.lnet_sop.specs.Factored.{quotient}
use Rattle.lnet_sop.proofs.factoring.quotient.Given as goal

abbrev pub invariant-loop-cube : goal.invariant-loop-cube
invariant-loop-cube l = l.quotient.items ≡ quotient l.literal (take l.cube-index l.cubes)
