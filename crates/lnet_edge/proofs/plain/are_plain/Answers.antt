use Rattle.std.proofs.Common.{refl, below_more, arith}
use Rattle.lnet_edge.specs.CircuitLists.{equation_views}
use Rattle.lnet_edge.proofs.WireLemmas.{length-views}
use Rattle.lnet_edge.proofs.PlainLemmas.{PlainAt, plain_here, all_plain, not_plain}
use Rattle.lnet_edge.proofs.plain.are_plain.Goals as goal

pub loop-place-preserved : goal.loop-place-preserved
loop-place-preserved c =
    below_more (PlainAt (equation_views c.args.equations.now)) c.loop-place.place c.loop-place.invariant
    (plain_here c.args.drivers.now c.args.equations.now c.loop-place.place c.index-equations-place.result c.stands_plain.result c.requires c.loop-place-test.true c.index-equations-place.is c.stands_plain.ensures c.if-not-stands_plain.false)

pub returns-then-not-stands_plain : goal.returns-then-not-stands_plain
returns-then-not-stands_plain c = (
  (λ e. absurd cc),
  (λ plain. absurd (not_plain c.args.drivers.now c.args.equations.now c.loop-place.place c.index-equations-place.result c.stands_plain.result c.requires c.loop-place-test.true c.index-equations-place.is c.stands_plain.ensures c.if-not-stands_plain.true plain)),
)

pub returns : goal.returns
returns c =
    let views = length-views c.args.equations.now in
    let all = c.loop-place-test.false in
    ((λ _. all_plain (equation_views c.args.equations.now) c.loop-place.place (omega arith) c.loop-place.invariant), (λ _. refl))
