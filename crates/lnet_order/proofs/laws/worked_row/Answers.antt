use Rattle.std.proofs.Common.{refl}
use Rattle.lnet_order.specs.Orders.{taken, order_of}
use Rattle.lnet_order.proofs.laws.worked_row.Goals as goal

pub returns : goal.returns
unfolding taken order_of
returns c = refl
