use Rattle.std.proofs.Common.{◌≡◌, List, Result, Err, ap, subst, sym, ◌∙◌, arith}
use Rattle.lnet_gates.specs.Gates.{GateValue}
use Rattle.lnet_gates.specs.declared.signal.Signal.{Signal}
use Rattle.lnet_store.specs.declared.store.AddError.{AddError}
use Rattle.lnet_model.specs.Along.{nodes_read}
use Rattle.lnet_model.specs.Networks.{live_count}
use Rattle.lnet_model.specs.Changes.{AreLive}
use Rattle.lnet_hashed.specs.Strashed.{placed}
use Rattle.lnet_hashed.specs.Laid.{laid_steps, step_gate}
use Rattle.lnet_hashed.proofs.LaidValues.{operands-live, live-one_more, step-laid, step-within}
use Rattle.lnet_hashed.proofs.laying.lay_step.Goals as goal

error-same : {a b : AddError} → ◌≡◌ {A = Result (Unit {0}) AddError} (Err a) (Err b) → a ≡ b
error-same e = cc

pub place_noting-requires-clause-live : goal.place_noting-requires-clause-live
place_noting-requires-clause-live g c =
    let same : c.step_gate-gate.result ≡ step_gate c.args.laying.now.places.items c.args.step.now = c.step_gate-gate.ensures ∙ ap (λ ps. step_gate ps c.args.step.now) c.as_slice.ensures.value in
    subst (λ (x : GateValue). AreLive c.args.hashed.now.store.network (nodes_read x.fanins)) (sym same) (operands-live c.args.hashed.now.store.network c.args.laying.now.places.items c.live_count-live.ensures.stored.whole c.requires.live c.args.step.now.op c.args.step.now.a c.args.step.now.b c.args.step.now.c)

pub returns-in-Ok-clause-laid : goal.returns-in-Ok-clause-laid
returns-in-Ok-clause-laid g c ss =
    let same : c.step_gate-gate.result ≡ step_gate c.args.laying.now.places.items c.args.step.now = c.step_gate-gate.ensures ∙ ap (λ ps. step_gate ps c.args.step.now) c.as_slice.ensures.value in
    let is = ap (placed g.G.Gates.KIND c.args.hashed.now.store.network) (sym same) ∙ c.in-Ok.ensures.placed in
    step-laid g.G.Gates.KIND c.args.step.now ss c.args.hashed.now.store.network c.args.laying.now.places.items (record { network = c.place_noting.new.hashed.store.network; signal = c.in-Ok.signal }) is
    ∙ ap (laid_steps g.G.Gates.KIND ss c.place_noting.new.hashed.store.network) (sym c.push.ensures.items)

pub returns-in-Ok-clause-live : goal.returns-in-Ok-clause-live
returns-in-Ok-clause-live g c =
    subst (λ (ps : List Signal). AreLive c.place_noting.new.hashed.store.network (nodes_read ps)) (sym c.push.ensures.items)
    (live-one_more c.place_noting.new.hashed.store.network c.args.laying.now.places.items c.in-Ok.signal (λ m i. c.place_noting.ensures.lives m (c.requires.live m i)) c.in-Ok.ensures.live)

pub returns-in-Err-clause-full : goal.returns-in-Err-clause-full
returns-in-Err-clause-full g c e ss =
    let same : c.step_gate-gate.result ≡ step_gate c.args.laying.now.places.items c.args.step.now = c.step_gate-gate.ensures ∙ ap (λ ps. step_gate ps c.args.step.now) c.as_slice.ensures.value in
    let count = ap (λ x. live_count (placed g.G.Gates.KIND c.args.hashed.now.store.network x).network) same in
    let within = step-within g.G.Gates.KIND c.args.step.now ss c.args.hashed.now.store.network c.args.laying.now.places.items in
    let full = c.place_noting.ensures.full (c.in-Err.is ∙ ap Err (error-same e)) in
    omega arith

pub returns-in-Err-clause-memory : goal.returns-in-Err-clause-memory
returns-in-Err-clause-memory g c e ss =
    let same : c.step_gate-gate.result ≡ step_gate c.args.laying.now.places.items c.args.step.now = c.step_gate-gate.ensures ∙ ap (λ ps. step_gate ps c.args.step.now) c.as_slice.ensures.value in
    let count = ap (λ x. live_count (placed g.G.Gates.KIND c.args.hashed.now.store.network x).network) same in
    let within = step-within g.G.Gates.KIND c.args.step.now ss c.args.hashed.now.store.network c.args.laying.now.places.items in
    let full = c.place_noting.ensures.memory (c.in-Err.is ∙ ap Err (error-same e)) in
    omega arith
