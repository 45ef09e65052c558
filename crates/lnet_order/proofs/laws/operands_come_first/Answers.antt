use Rattle.lnet_order.proofs.SoundLemmas.{order-sound}
use Rattle.lnet_order.proofs.laws.operands_come_first.Goals as goal

pub returns-clause-operands : goal.returns-clause-operands
returns-clause-operands c circuit is = (order-sound circuit is).order

pub returns-clause-outputs : goal.returns-clause-outputs
returns-clause-outputs c circuit is = (order-sound circuit is).driven
