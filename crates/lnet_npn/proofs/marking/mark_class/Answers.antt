use Rattle.std.proofs.Common.{◌≡◌, ℕ, true, arith, subst}
use Rattle.lnet_npn.specs.Transforms.{is_order}
use Rattle.lnet_npn.proofs.Arrangements.{arrangement_at}
use Rattle.lnet_npn.proofs.Orders.{order_is}
use Rattle.lnet_npn.proofs.Ranked.{images_at}
use Rattle.lnet_npn.proofs.Marked.{none_seen_yet, more_seen, all_seen}
use Rattle.lnet_npn.proofs.marking.mark_class.Goals as goal

pub loop-arrangement-init : goal.loop-arrangement-init
loop-arrangement-init c = none_seen_yet c.args.word c.args.marks.now

pub images-requires : goal.images-requires
images-requires c = arrangement_at c.loop-arrangement.arrangement-index _ c.loop-arrangement-test.true

pub loop-arrangement-preserved : goal.loop-arrangement-preserved
loop-arrangement-preserved c =
    let k : ℕ = c.loop-arrangement.arrangement-index in
    let o = order_is k _ c.loop-arrangement-test.true in
    more_seen c.images.result c.args.word k _ _ _ (subst (λ p. is_order p ≡ true) o (arrangement_at k _ c.loop-arrangement-test.true).order) (images_at _ _ _ _ o c.images.ensures) c.loop-arrangement.invariant
    (record { len = c.mark_all.ensures.len; kept = c.mark_all.ensures.kept; marked = c.mark_all.ensures.marked; only = c.mark_all.ensures.only })

pub returns-clause-kept : goal.returns-clause-kept
returns-clause-kept c = c.loop-arrangement.invariant.kept

pub returns-clause-marked : goal.returns-clause-marked
returns-clause-marked c = all_seen c.args.word c.loop-arrangement.arrangement-index _ _ (omega arith) c.loop-arrangement.invariant

pub returns-clause-only : goal.returns-clause-only
returns-clause-only c = c.loop-arrangement.invariant.only
