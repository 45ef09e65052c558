use Rattle.std.proofs.Common.{refl}
use Rattle.lnet_order.proofs.CallLemmas.{places-next}
use Rattle.lnet_order.proofs.places.places_of.Goals as goal

pub loop-place-preserved : goal.loop-place-preserved
loop-place-preserved c = places-next c.loop-place.places c.insert.new.self c.args.equations.now c.loop-place.place c.index-equations-place.result.target.0 c.index-equations-place.result c.loop-place-test.true c.index-equations-place.is refl c.loop-place.invariant c.in_ok-insert.ensures.updates
