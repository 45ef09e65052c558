use Rattle.lnet_npn.proofs.Exchanged.{exchanged_at}
use Rattle.lnet_npn.proofs.exchanges.exchanged.Goals as goal

pub returns : goal.returns
returns c = λ x lt. exchanged_at c.args.word c.args.exchange x c.requires lt
