use Rattle.lnet_cuts.proofs.KeptCuts.{widened-at}
use Rattle.lnet_cuts.proofs.list.widened.Goals as goal

pub returns : goal.returns
returns c = λ r h. widened-at c.args.table _ r h
