use Rattle.std.proofs.Common.{arith}
use Rattle.lnet_npn.proofs.Orders.{order_below}
use Rattle.lnet_npn.proofs.Doubled.{images_told}
use Rattle.lnet_npn.proofs.canonical.images.Goals as goal

pub double-requires-clause-variable : goal.double-requires-clause-variable
double-requires-clause-variable c = (order_below c.args.arrangement.now.order c.requires.order).at 0 (omega arith)

pub double-requires-2-clause-variable : goal.double-requires-2-clause-variable
double-requires-2-clause-variable c = (order_below c.args.arrangement.now.order c.requires.order).at 1 (omega arith)

pub double-requires-3-clause-variable : goal.double-requires-3-clause-variable
double-requires-3-clause-variable c = (order_below c.args.arrangement.now.order c.requires.order).at 2 (omega arith)

pub double-requires-4-clause-variable : goal.double-requires-4-clause-variable
double-requires-4-clause-variable c = (order_below c.args.arrangement.now.order c.requires.order).at 3 (omega arith)

pub returns : goal.returns
returns c =
    images_told c.args.arrangement.now.order c.args.word c.arranged-images.result _ _ _ _ c.requires.order c.arranged-images.ensures
    c.double.ensures.kept c.double.ensures.more c.double-2.ensures.kept c.double-2.ensures.more
    c.double-3.ensures.kept c.double-3.ensures.more c.double-4.ensures.kept c.double-4.ensures.more c.double-4.ensures.fit
