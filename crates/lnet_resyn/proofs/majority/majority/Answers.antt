use Rattle.lnet_resyn.proofs.Words.{majority-set}
use Rattle.lnet_resyn.proofs.majority.majority.Goals as goal

pub returns : goal.returns
returns c = λ r. majority-set c.args.a c.args.b c.args.c r
