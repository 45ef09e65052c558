use Rattle.std.proofs.Common.{◌-◌, ◌/◌, ◌^◌, sym, ◌∙◌, bit_and}
use Rattle.std.proofs.lemmas.Bool.{eq-eqb, ne_eqb}
use Rattle.lnet_simulate.proofs.BlockLemmas.{low-bit, true-block, false-block}
use Rattle.lnet_simulate.proofs.inputs.input_word.Goals as goal

pub returns-then-i-lt6 : goal.returns-then-i-lt6
returns-then-i-lt6 c = λ j lt. c.high_rows.ensures j lt ∙ sym (low-bit c.args.block c.args.i j c.if-i-lt6.true)

pub returns-then-block-i-eq1 : goal.returns-then-block-i-eq1
returns-then-block-i-eq1 c = λ j lt. true-block c.args.block c.args.i j c.if-i-lt6.false lt (eq-eqb (bit_and (c.args.block / 2 ^ (c.args.i - 6)) 1) 1 c.if-block-i-eq1.true)

pub returns-else-block-i-eq1 : goal.returns-else-block-i-eq1
returns-else-block-i-eq1 c = λ j lt. false-block c.args.block c.args.i j c.if-i-lt6.false lt (ne_eqb (bit_and (c.args.block / 2 ^ (c.args.i - 6)) 1) 1 c.if-block-i-eq1.false)
