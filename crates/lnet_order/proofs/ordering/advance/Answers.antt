use Rattle.std.proofs.Common.{sym, ◌∙◌, arith}
use Rattle.lnet_order.proofs.CallLemmas.{driver-within, next-advances, next-within, end-advances}
use Rattle.lnet_order.proofs.ordering.advance.Goals as goal

pub enter-requires : goal.enter-requires
enter-requires c k is = let h = driver-within c.args.places.now c.args.equations.now c.in-Some.wire k c.requires.places is in let n = c.requires.marked.sized in omega arith

pub returns-in_ok-push-in-Some-clause-advances : goal.returns-in_ok-push-in-Some-clause-advances
returns-in_ok-push-in-Some-clause-advances c =
    next-advances c.enter.result c.args.places.now c.args.equations.now c.requires.places c.requires.short c.args.marks.now c.args.order.now.items _ c.requires.marked c.args.path.now.items c.push.new.self.items c.enter.new.path.items c.args.frame c.index-equations-frame.result c.in-Some.wire c.requires.place c.index-equations-frame.is (sym c.in-Some.is ∙ c.operand_at.ensures.value) c.in_ok-push-in-Some.ensures.items c.enter.ensures

pub returns-in_ok-push-in-Some-clause-within : goal.returns-in_ok-push-in-Some-clause-within
returns-in_ok-push-in-Some-clause-within c =
    next-within c.enter.result c.args.places.now c.args.equations.now c.requires.places c.args.marks.now c.args.path.now.items c.push.new.self.items c.enter.new.path.items _ c.in-Some.wire c.requires.place c.requires.within c.in_ok-push-in-Some.ensures.items c.enter.ensures

pub returns-in_ok-push-in-None-clause-advances : goal.returns-in_ok-push-in-None-clause-advances
returns-in_ok-push-in-None-clause-advances c =
    end-advances c.args.equations.now c.args.order.now.items c.push-in-None.new.self.items c.args.path.now.items c.args.frame c.index-equations-frame.result c.requires.place c.index-equations-frame.is (sym c.in-None.is ∙ c.operand_at.ensures.value) c.in_ok-push-in-None.ensures.items
