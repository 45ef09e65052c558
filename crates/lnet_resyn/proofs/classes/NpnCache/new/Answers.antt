use Rattle.std.proofs.Common.{arith}
use Rattle.lnet_resyn.proofs.Classing.{number-small}
use Rattle.lnet_resyn.proofs.classes.NpnCache.new.Goals as goal

pub invariant_of-result : goal.invariant_of-result
invariant_of-result c = record {
  holds = λ g least. let small = number-small g in let past = c.loop-number-test.false in c.loop-number.invariant.recipes g least (omega arith);
}
