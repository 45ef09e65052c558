use Rattle.std.proofs.Common.{◌∙◌, ap, ◌-◌, ◌<◌, length, arith}
use Rattle.std.proofs.lemmas.List.{get_or_read}
use Rattle.lnet_model.specs.Cuts.{CutValue, constant_cut}
use Rattle.lnet_cuts.proofs.Unions.{all-over}
use Rattle.lnet_cuts.proofs.combining.united.Goals as goal

pub returns-then-not-unite : goal.returns-then-not-unite
returns-then-not-unite c =
    let h : c.loop-i.i - 1 < length c.args.cuts.now = (let p = c.loop-i-test.true in omega (arith, c.loop-i.invariant.inside)) in
    all-over c.args.cuts.now c.loop-i.leaves.items c.leaves.result.now c.loop-i.i c.args.size c.loop-i-test.true c.loop-i.invariant.inside c.loop-i.invariant.value (c.leaves.ensures.value
    ∙ ap (λ (z : CutValue). z.leaves) (get_or_read c.args.cuts.now (c.loop-i.i - 1) c.index-cuts-i.result h c.index-cuts-i.is constant_cut)) (c.unite.ensures.full c.if-not-unite.true)
