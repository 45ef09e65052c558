use Rattle.lnet_cuts.proofs.Combos.{same-fanins, many-pick, few-pick, few-place, still-inside}
use Rattle.lnet_cuts.proofs.combining.combination.Goals as goal

pub returns-then-fanins-gt3 : goal.returns-then-fanins-gt3
returns-then-fanins-gt3 c = many-pick c.args.values.now c.as_slice-fanins.result.now c.args.gate.now.fanins c.args.place c.owned.result.items
    (same-fanins c.gate.inside.op c.gate.inside.phase c.gate.inside.fanins.items c.as_slice-fanins.result.now c.args.gate.now c.gate.view_is c.as_slice-fanins.ensures.value)
    c.if-fanins-gt3.true c.requires.place c.owned.ensures

pub picked-requires-clause-inside : goal.picked-requires-clause-inside
picked-requires-clause-inside c = still-inside c.args.values.now c.as_slice-fanins.result.now c.args.gate.now.fanins
    (same-fanins c.gate.inside.op c.gate.inside.phase c.gate.inside.fanins.items c.as_slice-fanins.result.now c.args.gate.now c.gate.view_is c.as_slice-fanins.ensures.value)
    c.requires.inside

pub picked-requires-clause-place : goal.picked-requires-clause-place
picked-requires-clause-place c = few-place c.args.values.now c.as_slice-fanins.result.now c.args.gate.now.fanins c.args.place
    (same-fanins c.gate.inside.op c.gate.inside.phase c.gate.inside.fanins.items c.as_slice-fanins.result.now c.args.gate.now c.gate.view_is c.as_slice-fanins.ensures.value)
    c.if-fanins-gt3.false c.requires.place

pub returns : goal.returns
returns c = few-pick c.args.values.now c.as_slice-fanins.result.now c.args.gate.now.fanins c.args.place c.picked.result.items
    (same-fanins c.gate.inside.op c.gate.inside.phase c.gate.inside.fanins.items c.as_slice-fanins.result.now c.args.gate.now c.gate.view_is c.as_slice-fanins.ensures.value)
    c.if-fanins-gt3.false c.picked.ensures
