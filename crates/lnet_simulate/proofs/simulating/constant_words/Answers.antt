use Rattle.std.proofs.Common.{◌≡◌, ◌<◌, ◌+◌, ◌∷◌, [], ℕ, List, length, refl, sym, ap, subst, ◌∙◌, arith, length-append}
use Rattle.lnet_simulate.specs.Assignments.{assignment}
use Rattle.lnet_simulate.specs.Lanes.{lane}
use Rattle.lnet_simulate.proofs.OutputLemmas.{lanes-more}
use Rattle.lnet_simulate.proofs.simulating.constant_words.Goals as goal

pub loop-bit-preserved : goal.loop-bit-preserved
loop-bit-preserved c =
    let now = c.in_ok-push.ensures.items in
    let count = length-append c.loop-bit.words.items (c.from.result ∷ []) in
    let so_far = c.loop-bit.invariant.count in
    record {
      count = ap length now ∙ (omega arith);
      lanes = subst (λ (ws : List ℕ). (k : ℕ) → k < c.loop-bit.bit-index + 1 → lane ws 0 k ≡ assignment c.args.bits.now k) (sym now)
          (lanes-more c.loop-bit.words.items c.args.bits.now c.loop-bit.bit-index c.from.result (assignment c.args.bits.now c.loop-bit.bit-index) c.loop-bit.invariant.count c.from.ensures refl c.loop-bit.invariant.lanes);
    }
