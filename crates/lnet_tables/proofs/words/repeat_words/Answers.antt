use Rattle.std.proofs.Common.{◌≡◌, ℕ, ◌+◌, ap, sym, ◌∙◌, arith, false}
use Rattle.lnet_tables.specs.Bits.{with_bit}
use Rattle.lnet_tables.specs.Words.{word_bit}
use Rattle.lnet_tables.proofs.Constants.{pow_within}
use Rattle.lnet_tables.proofs.Repeat.{cleared_below, cleared_mod, small_mod}
use Rattle.lnet_tables.proofs.words.repeat_words.Goals as goal

pub loop-index-init : goal.loop-index-init
loop-index-init c = λ r lt. ap (word_bit c.args.words.now) (sym (small_mod r c.args.from lt))

pub loop-index-preserved : goal.loop-index-preserved
loop-index-preserved c = λ r lt.
    let i : ℕ = c.loop-index.index in
    c.cofactor_words-out.ensures r (omega (arith, pow_within (i + 1) c.args.to (omega arith)))
    ∙ c.loop-index.invariant (with_bit r i false) (cleared_below r i lt)
    ∙ ap (word_bit c.args.words.now) (cleared_mod r i c.args.from (omega arith))

pub returns : goal.returns
returns c =
    let e : c.loop-index.index ≡ c.args.to = omega arith in
    λ r lt. c.loop-index.invariant r (rw e lt)
