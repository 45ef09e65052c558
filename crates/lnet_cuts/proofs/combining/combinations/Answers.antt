use Rattle.lnet_cuts.proofs.Combos.{same-fanins, many-count, few-count, still-inside}
use Rattle.lnet_cuts.proofs.combining.combinations.Goals as goal

pub returns-then-fanins-gt3-clause-value : goal.returns-then-fanins-gt3-clause-value
returns-then-fanins-gt3-clause-value c = many-count c.args.values.now c.as_slice-fanins.result.now c.args.gate.now.fanins
    (same-fanins c.gate.inside.op c.gate.inside.phase c.gate.inside.fanins.items c.as_slice-fanins.result.now c.args.gate.now c.gate.view_is c.as_slice-fanins.ensures.value)
    c.if-fanins-gt3.true

pub product-requires-clause-inside : goal.product-requires-clause-inside
product-requires-clause-inside c = still-inside c.args.values.now c.as_slice-fanins.result.now c.args.gate.now.fanins
    (same-fanins c.gate.inside.op c.gate.inside.phase c.gate.inside.fanins.items c.as_slice-fanins.result.now c.args.gate.now c.gate.view_is c.as_slice-fanins.ensures.value)
    c.requires.inside

pub returns-clause-value : goal.returns-clause-value
returns-clause-value c = few-count c.args.values.now c.as_slice-fanins.result.now c.args.gate.now.fanins c.product.result
    (same-fanins c.gate.inside.op c.gate.inside.phase c.gate.inside.fanins.items c.as_slice-fanins.result.now c.args.gate.now c.gate.view_is c.as_slice-fanins.ensures.value)
    c.if-fanins-gt3.false c.product.ensures.value
