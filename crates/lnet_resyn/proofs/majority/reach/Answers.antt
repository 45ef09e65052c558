use Rattle.std.proofs.Common.{ap, ◌∙◌, max}
use Rattle.lnet_resyn.specs.Majority.{word_rows, agreements}
use Rattle.lnet_resyn.proofs.Words.{other-word}
use Rattle.lnet_resyn.proofs.majority.reach.Goals as goal

pub returns : goal.returns
returns c =
    c.max.ensures
    ∙ (λ i. max (c.agreements.ensures.value i) ((c.agreements-2.ensures.value ∙ ap (agreements (word_rows c.args.vars c.args.target)) (other-word c.args.vars c.args.word c.requires.few c.ranges.word.fits)) i))
