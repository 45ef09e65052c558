use Rattle.std.proofs.Common.{◌≡◌, ℕ, arith}
use Rattle.lnet_npn.proofs.Arrangements.{arrangement_at}
use Rattle.lnet_npn.proofs.Orders.{order_is}
use Rattle.lnet_npn.proofs.Ranked.{least_seen, least_more, made_more, unchanged_makes, images_at}
use Rattle.lnet_npn.proofs.canonical.least_image.Goals as goal

pub loop-arrangement-init : goal.loop-arrangement-init
loop-arrangement-init c = record { made = unchanged_makes c.args.word c.ranges.word.fits; least = λ j f o lt. absurd (omega arith) }

pub images-requires : goal.images-requires
images-requires c = arrangement_at c.loop-arrangement.arrangement-index _ c.loop-arrangement-test.true

pub loop-arrangement-preserved : goal.loop-arrangement-preserved
loop-arrangement-preserved c =
    let k : ℕ = c.loop-arrangement.arrangement-index in
    let o = order_is k _ c.loop-arrangement-test.true in
    record {
      made = made_more _ _ _ _ _ (arrangement_at k _ c.loop-arrangement-test.true).order c.images.ensures c.loop-arrangement.invariant.made c.least_of-best.ensures.made;
      least = least_more _ k _ _ _ (images_at _ _ _ _ o c.images.ensures) c.least_of-best.ensures.best c.least_of-best.ensures.below c.loop-arrangement.invariant.least;
    }

pub returns-clause-least : goal.returns-clause-least
returns-clause-least c =
    let e : c.loop-arrangement.arrangement-index ≡ 24 = omega arith in
    least_seen _ _ (λ j f o lt. c.loop-arrangement.invariant.least j f o (rw e lt))
