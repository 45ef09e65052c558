use Rattle.std.proofs.Common.{◌≡◌, ℕ, ◌+◌, ap, sym, ◌∙◌, arith, false}
use Rattle.lnet_tables.specs.Bits.{is_set, with_bit}
use Rattle.lnet_tables.proofs.Constants.{pow_within}
use Rattle.lnet_tables.proofs.Repeat.{cleared_below, cleared_mod, small_mod}
use Rattle.lnet_tables.proofs.words.repeat_word.Goals as goal

pub loop-index-init : goal.loop-index-init
loop-index-init c = λ r lt. ap (is_set c.args.word) (sym (small_mod r c.args.from lt))

pub loop-index-preserved : goal.loop-index-preserved
loop-index-preserved c = λ r lt.
    let i : ℕ = c.loop-index.index in
    c.cofactor_word-out.ensures r (omega (arith, pow_within (i + 1) 6 (omega arith)))
    ∙ c.loop-index.invariant (with_bit r i false) (cleared_below r i lt)
    ∙ ap (is_set c.args.word) (cleared_mod r i c.args.from (omega arith))

pub returns : goal.returns
returns c =
    let e : c.loop-index.index ≡ c.args.to = omega arith in
    λ r lt. c.loop-index.invariant r (rw e lt)
