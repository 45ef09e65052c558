use Rattle.std.proofs.Common.{◌≡◌, suc, ◌-◌, ◌+◌, arith}
use Rattle.lnet_generate.proofs.Steps.{outputs-next}
use Rattle.lnet_generate.proofs.drawing.draw_outputs.Goals as goal

pub loop-place-preserved : goal.loop-place-preserved
loop-place-preserved g c =
    let count : c.args.outputs - c.loop-place.place ≡ suc (c.args.outputs - (c.loop-place.place + 1)) = (let h = c.loop-place-test.true in omega arith) in
    outputs-next c.loop-place.ports.items c.push.new.self.items (c.args.outputs - c.loop-place.place) (c.args.outputs - (c.loop-place.place + 1)) c.args.wires (g.R.Rng.stream c.loop-place.rng) (g.R.Rng.stream c.draw_use.new.rng) c.draw_use.result _ count c.in_ok-push.ensures.items c.draw_use.ensures c.loop-place.invariant
