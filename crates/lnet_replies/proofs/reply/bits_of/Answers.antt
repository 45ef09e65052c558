use Rattle.std.proofs.Common.{◌≡◌, ◌-◌, ◌+◌, suc, ◌++◌, [], ◌∷◌, List, Bool, ap, ◌∙◌, append_assoc, arith}
use Rattle.std.specs.Prelude.{◌/◌, ◌%◌, ◌==◌}
use Rattle.lnet_replies.specs.Texts.{bits_of}
use Rattle.lnet_replies.proofs.reply.bits_of.Goals as goal

pub loop-place-preserved : goal.loop-place-preserved
loop-place-preserved c =
    let xs = c.loop-place.bits.items in
    let rest = c.loop-place.rest in
    let k = c.args.inputs - (c.loop-place._place + 1) in
    let within = c.loop-place-test.true in
    let left : suc k ≡ c.args.inputs - c.loop-place._place = omega arith in
    ap (λ (ys : List Bool). ys ++ bits_of k (rest / 2)) c.in_ok-push.ensures.items
    ∙ append_assoc xs ((rest % 2 == 1) ∷ []) (bits_of k (rest / 2))
    ∙ ap (λ n. xs ++ bits_of n rest) left
    ∙ c.loop-place.invariant
