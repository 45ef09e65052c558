use Rattle.std.proofs.Common.{arith, refl, ◌∙◌, sym}
use Rattle.lnet_npn.proofs.Chosen.{choice_plain, choice_complement, first_plain, first_complement, none_more}
use Rattle.lnet_npn.proofs.canonical.first_of.Goals as goal

pub returns-then-image-word-clause-some : goal.returns-then-image-word-clause-some
returns-then-image-word-clause-some c = record {
  order = refl;
  flips = omega arith;
  makes = choice_plain c.args.images.now c.loop-flips.flips ∙ c.if-image-word.true;
  first = first_plain c.args.images.now c.loop-flips.flips c.args.word c.loop-flips.invariant;
}

pub returns-then-image-word-2-clause-some : goal.returns-then-image-word-2-clause-some
returns-then-image-word-2-clause-some c = record {
  order = refl;
  flips = omega arith;
  makes = choice_complement c.args.images.now c.loop-flips.flips ∙ c.if-image-word-2.true;
  first = first_complement c.args.images.now c.loop-flips.flips c.args.word (λ e. c.if-image-word.false (sym (choice_plain c.args.images.now c.loop-flips.flips) ∙ e)) c.loop-flips.invariant;
}

pub loop-flips-preserved : goal.loop-flips-preserved
loop-flips-preserved c =
    none_more c.args.images.now c.loop-flips.flips c.args.word
    (λ e. c.if-image-word.false (sym (choice_plain c.args.images.now c.loop-flips.flips) ∙ e))
    (λ e. c.if-image-word-2.false (sym (choice_complement c.args.images.now c.loop-flips.flips) ∙ e))
    c.loop-flips.invariant
