use Rattle.std.proofs.Common.{◌∙◌, ◌≤◌, ◌*◌, ◌^◌, ◌+◌, length, get_or, arith}
use Rattle.std.proofs.lemmas.List.{get_or_read}
use Rattle.lnet_cuts.specs.Stored.{first_cuts}
use Rattle.lnet_cuts.proofs.Combos.{in-at, pow-few, product-few, product-more, none}
use Rattle.lnet_cuts.proofs.combining.product.Goals as goal

pub bounds-values-s : goal.bounds-values-s
bounds-values-s c = c.requires.inside _ (in-at c.args.fanins.now c.loop-s.s-index none c.loop-s-test.true)

pub overflow_mul-count : goal.overflow_mul-count
overflow_mul-count c =
    let h : c.loop-s.count * length c.as_slice.result.now ≤ 17 ^ (c.loop-s.s-index + 1) = product-few c.loop-s.count (length c.as_slice.result.now) c.loop-s.s-index c.loop-s.invariant.few
    c.as_slice.ensures.few in
    let k : 17 ^ (c.loop-s.s-index + 1) ≤ 4913 = pow-few (c.loop-s.s-index + 1) (omega (arith, c.requires.few, c.loop-s-test.true)) in
    record { fits = omega arith }

pub loop-s-preserved : goal.loop-s-preserved
loop-s-preserved c = record {
  value = product-more c.args.values.now c.args.fanins.now c.loop-s.s-index c.loop-s.count _ none c.as_slice.result.now c.loop-s-test.true
      (c.as_slice.ensures.value ∙ get_or_read c.args.values.now (get_or c.args.fanins.now c.loop-s.s-index none).node.0 c.index-values-s.result
      (c.requires.inside _ (in-at c.args.fanins.now c.loop-s.s-index none c.loop-s-test.true)) c.index-values-s.is (first_cuts 0)) c.loop-s.invariant.value;
  few = product-few c.loop-s.count (length c.as_slice.result.now) c.loop-s.s-index c.loop-s.invariant.few c.as_slice.ensures.few;
}

pub returns-clause-few : goal.returns-clause-few
returns-clause-few c = let k : 17 ^ c.loop-s.s-index ≤ 4913 = pow-few c.loop-s.s-index (omega (arith, c.requires.few, c.loop-s.auto.s-index-end)) in omega (arith, c.loop-s.invariant.few)
