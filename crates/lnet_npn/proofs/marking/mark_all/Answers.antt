use Rattle.std.proofs.Common.{arith, ◌∙◌, inl, inr}
use Rattle.lnet_npn.proofs.Marked.{none_marked, more_marked}
use Rattle.lnet_npn.proofs.marking.mark_all.Goals as goal

pub loop-image-init : goal.loop-image-init
loop-image-init c = none_marked c.args.images.now c.args.marks.now

pub loop-image-preserved : goal.loop-image-preserved
loop-image-preserved c = more_marked c.args.images.now c.loop-image.image-index c.args.marks.now _ _ _ (c.loop-image.invariant.len ∙ c.requires) (c.fits-images c.loop-image.image-index) c.loop-image.invariant c.mark.ensures c.mark-in-loop-image.ensures

pub returns-clause-kept : goal.returns-clause-kept
returns-clause-kept c = c.loop-image.invariant.kept

pub returns-clause-marked : goal.returns-clause-marked
returns-clause-marked c = λ f o lt. let past = c.loop-image-test.false in c.loop-image.invariant.marked f o (omega arith)

pub returns-clause-only : goal.returns-clause-only
returns-clause-only c = λ m is. elim (c.loop-image.invariant.only m is) [ inl p ↦ inl p | inr p ↦ inr (p.0, p.1, (let l = p.2 in let e = c.loop-image.auto.image-index-end in omega arith), p.3) ]
