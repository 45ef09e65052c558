use Rattle.std.proofs.Common.{◌≡◌, suc, ◌-◌, ◌+◌, ◌∷◌, ap, arith}
use Rattle.std.specs.Prelude.{None, ℕ}
use Rattle.lnet_generate.specs.Drawing.{inputs_from}
use Rattle.lnet_generate.proofs.Steps.{inputs-next}
use Rattle.lnet_generate.proofs.drawing.number_inputs.Goals as goal

pub loop-place-preserved : goal.loop-place-preserved
loop-place-preserved c =
    let count : c.args.inputs - c.loop-place.place ≡ suc (c.args.inputs - (c.loop-place.place + 1)) = (let h = c.loop-place-test.true in omega arith) in
    let next : 1 + (c.loop-place.place + 1) ≡ (1 + c.loop-place.place) + 1 = omega arith in
    let here : c.loop-place.place + 1 ≡ 1 + c.loop-place.place = omega arith in
    inputs-next c.loop-place.ports.items c.push.new.self.items (c.args.inputs - c.loop-place.place) (c.args.inputs - (c.loop-place.place + 1)) (1 + c.loop-place.place) (1 + (c.loop-place.place + 1)) (record { wire = record { 0 = c.loop-place.place + 1 }; name = None }) _ count next c.in_ok-push.ensures.items (ap (λ (n : ℕ). record { wire = record { 0 = n }; name = None } ∷ inputs_from ((1 + c.loop-place.place) + 1) (c.args.inputs - (c.loop-place.place + 1))) here) c.loop-place.invariant
