use Rattle.std.proofs.Common.{◌≡◌, ◌<◌, ◌+◌, ◌||◌, ◌++◌, Some, length, take, sym, subst, arith, Bool}
use Rattle.lnet_edge.specs.CircuitLists.{equation_views}
use Rattle.lnet_edge.specs.Wires.{targets}
use Rattle.lnet_edge.specs.Drivers.{KnowsWires, KnowsEquations, target_at}
use Rattle.lnet_edge.proofs.DriverLemmas.{KnowsWires-next, KnowsEquations-push, target_at-view}
use Rattle.lnet_edge.proofs.WireLemmas.{length-target_views}
use Rattle.lnet_edge.proofs.drivers.put_equations.Goals as goal

pub loop-place-preserved : goal.loop-place-preserved
loop-place-preserved c =
    let es = equation_views c.args.equations.now in
    let long = length-target_views c.args.equations.now in
    let low : c.loop-place.place < length (targets es) = (let h = c.loop-place-test.true in omega arith) in
    let at : c.index-equations-place.result.target.0 ≡ target_at es c.loop-place.place = sym (target_at-view c.args.equations.now c.loop-place.place c.index-equations-place.result c.loop-place-test.true c.index-equations-place.is) in
    record {
      wires = λ xs knows.
          subst (λ (b : Bool). KnowsWires c.insert.new.self (c.loop-place.twice || b) (xs ++ take (c.loop-place.place + 1) (targets es))) (sym c.is_some-twice.ensures)
          (KnowsWires-next c.loop-place.drivers c.insert.new.self c.loop-place.twice xs (targets es) c.loop-place.place c.index-equations-place.result.target.0 (Some c.loop-place.place) c.in_ok-replaced.replaced (c.loop-place.invariant.wires xs knows) low at c.in_ok-replaced.ensures.updates c.in_ok-replaced.ensures.old);
      equations =
          subst (λ (b : Bool). KnowsEquations c.insert.new.self (c.loop-place.twice || b) es (c.loop-place.place + 1)) (sym c.is_some-twice.ensures)
          (KnowsEquations-push c.loop-place.drivers c.insert.new.self c.loop-place.twice es c.loop-place.place c.index-equations-place.result.target.0 c.in_ok-replaced.replaced at c.loop-place.invariant.equations c.in_ok-replaced.ensures.updates c.in_ok-replaced.ensures.old);
    }
