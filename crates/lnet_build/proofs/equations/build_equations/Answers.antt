use Rattle.std.proofs.Common.{sym, subst, arith, rules, refl}
use Rattle.lnet_edge.specs.CircuitLists.{equation_view, equation_views}
use Rattle.lnet_build.specs.Built.{with_equation}
use Rattle.lnet_build.specs.Signals.{Stand}
use Rattle.lnet_build.proofs.StandLemmas.{places-next, places-full, places-end, arity-at, words-next}
use Rattle.lnet_build.proofs.equations.build_equations.Goals as goal

pub loop-place-init : goal.loop-place-init
loop-place-init g c = record {
  live = c.requires.live;
  none = c.requires.none;
  reached = λ b h. (b, h, refl);
  words = λ j d low. absurd (omega arith);
}

pub build_equation-requires-clause-arity : goal.build_equation-requires-clause-arity
build_equation-requires-clause-arity g c = arity-at c.args.equations.now _ c.index-equations-place.result (c.requires.within c.loop-place.place-index 0 c.loop-place-test.true) c.index-equations-place.is c.requires.arities

pub returns-in_err-build_equation-clause-full : goal.returns-in_err-build_equation-clause-full
returns-in_err-build_equation-clause-full g c past b h =
    let r = c.loop-place.invariant.reached b h in
    places-full g.G.Gates.KIND c.args.equations.now c.args.order.now c.loop-place.place-index c.loop-place-test.true c.index-equations-place.result (c.requires.within c.loop-place.place-index 0 c.loop-place-test.true) c.index-equations-place.is r.0 _ r.2 (c.build_equation.ensures.full (search rules) r.0 r.1)

pub loop-place-preserved : goal.loop-place-preserved
loop-place-preserved g c = record {
  live = c.in_ok-build_equation.ensures.live;
  none = c.build_equation.ensures.none;
  reached = λ b h.
      let r = c.loop-place.invariant.reached b h in
      (with_equation g.G.Gates.KIND r.0 (equation_view c.index-equations-place.result), c.in_ok-build_equation.ensures.built r.0 r.1, places-next g.G.Gates.KIND c.args.equations.now c.args.order.now c.loop-place.place-index c.loop-place-test.true c.index-equations-place.result (c.requires.within c.loop-place.place-index 0 c.loop-place-test.true) c.index-equations-place.is r.0 _ r.2);
  words = words-next c.args.equations.now c.args.order.now c.loop-place.place-index c.index-equations-place.result (c.requires.within c.loop-place.place-index 0 c.loop-place-test.true) c.index-equations-place.is c.loop-place-test.true c.loop-place.invariant.words c.in_ok-build_equation.ensures.word;
}

pub returns-clause-built : goal.returns-clause-built
returns-clause-built g c b h =
    let r = c.loop-place.invariant.reached b h in
    subst (Stand c.loop-place.net.core.network c.loop-place.signals) (sym (places-end g.G.Gates.KIND (equation_views c.args.equations.now) c.args.order.now c.loop-place.place-index c.loop-place-test.false r.0 _ r.2)) r.1

pub returns-clause-words : goal.returns-clause-words
returns-clause-words g c k d low = c.loop-place.invariant.words k d (let past = c.loop-place-test.false in omega arith)
