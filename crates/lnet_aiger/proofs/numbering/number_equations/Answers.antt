use Rattle.std.proofs.Common.{◌<◌, ◌+◌, length, sym, arith}
use Rattle.lnet_edge.specs.CircuitLists.{equation_views}
use Rattle.lnet_edge.specs.Wires.{targets}
use Rattle.lnet_edge.proofs.DriverLemmas.{target_at-view}
use Rattle.lnet_edge.proofs.WireLemmas.{length-targets, length-views}
use Rattle.lnet_aiger.proofs.Places.{KnowsPlaces-next}
use Rattle.lnet_aiger.proofs.numbering.number_equations.Goals as goal

pub loop-place-preserved : goal.loop-place-preserved
loop-place-preserved c = λ xs knows first.
    let long = length-targets (equation_views c.args.equations.now) in
    let views = length-views c.args.equations.now in
    let low : c.loop-place.place < length (targets (equation_views c.args.equations.now)) = (let h = c.loop-place-test.true in omega arith) in
    KnowsPlaces-next c.loop-place.variables c.number_wire.new.variables xs (targets (equation_views c.args.equations.now)) c.loop-place.place c.index-equations-place.result.target.0 (c.args.first + c.loop-place.place) c.args.first low (sym (target_at-view c.args.equations.now c.loop-place.place c.index-equations-place.result c.loop-place-test.true c.index-equations-place.is)) first (omega arith) c.in_ok-number_wire.ensures (c.loop-place.invariant xs knows first)
