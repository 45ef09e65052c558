use Rattle.std.proofs.Common.{ℕ, arith, refl}
use Rattle.lnet_npn.proofs.Arrangements.{arrangement_at}
use Rattle.lnet_npn.proofs.Orders.{order_is}
use Rattle.lnet_npn.proofs.Ranked.{none_after, back_of, lawful_of, first_of_all, images_at, among_at, unreached}
use Rattle.lnet_npn.proofs.canonical.first_back.Goals as goal

pub images-requires : goal.images-requires
images-requires c = arrangement_at c.loop-arrangement.arrangement-index _ c.loop-arrangement-test.true

pub returns-in-Some-clause-lawful : goal.returns-in-Some-clause-lawful
returns-in-Some-clause-lawful c =
    lawful_of _ _ _ _ (arrangement_at c.loop-arrangement.arrangement-index _ c.loop-arrangement-test.true).order c.in-Some.ensures.some

pub returns-in-Some-clause-back : goal.returns-in-Some-clause-back
returns-in-Some-clause-back c = back_of _ _ _ _ _ c.images.ensures c.in-Some.ensures.some

pub returns-in-Some-clause-first : goal.returns-in-Some-clause-first
returns-in-Some-clause-first c =
    let k : ℕ = c.loop-arrangement.arrangement-index in
    let o = order_is k _ c.loop-arrangement-test.true in
    first_of_all _ k _ _ _ c.loop-arrangement-test.true (images_at _ _ _ _ o c.images.ensures) (among_at _ _ _ _ _ o c.in-Some.ensures.some) c.loop-arrangement.invariant

pub loop-arrangement-preserved : goal.loop-arrangement-preserved
loop-arrangement-preserved c =
    let k : ℕ = c.loop-arrangement.arrangement-index in
    let o = order_is k _ c.loop-arrangement-test.true in
    none_after _ k _ _ (images_at _ _ _ _ o c.images.ensures) (c.in_default.ensures.none refl) c.loop-arrangement.invariant

pub returns-clause-lawful : goal.returns-clause-lawful
returns-clause-lawful c = absurd (unreached _ _ _ (omega arith) c.loop-arrangement.invariant c.requires)

pub returns-clause-back : goal.returns-clause-back
returns-clause-back c = absurd (unreached _ _ _ (omega arith) c.loop-arrangement.invariant c.requires)

pub returns-clause-first : goal.returns-clause-first
returns-clause-first c = absurd (unreached _ _ _ (omega arith) c.loop-arrangement.invariant c.requires)
