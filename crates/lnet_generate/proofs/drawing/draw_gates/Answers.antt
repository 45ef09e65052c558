use Rattle.std.proofs.Common.{◌≡◌, suc, ◌-◌, ◌+◌, arith}
use Rattle.lnet_generate.proofs.Steps.{gates-next}
use Rattle.lnet_generate.proofs.drawing.draw_gates.Goals as goal

pub loop-gate-preserved : goal.loop-gate-preserved
loop-gate-preserved g c =
    let count : c.args.gates - c.loop-gate.gate ≡ suc (c.args.gates - (c.loop-gate.gate + 1)) = (let h = c.loop-gate-test.true in omega arith) in
    let next : c.args.inputs + (c.loop-gate.gate + 1) ≡ (c.args.inputs + c.loop-gate.gate) + 1 = omega arith in
    gates-next c.args.kind c.loop-gate.equations.items c.push.new.self.items (c.args.gates - c.loop-gate.gate) (c.args.gates - (c.loop-gate.gate + 1)) (c.args.inputs + c.loop-gate.gate) (c.args.inputs + (c.loop-gate.gate + 1)) (g.R.Rng.stream c.loop-gate.rng) (g.R.Rng.stream c.draw_gate.new.rng) c.in_ok-draw_gate.field-0 _ count next c.in_ok-push.ensures.items c.in_ok-draw_gate.ensures c.loop-gate.invariant
