use Rattle.std.proofs.Common.{◌≡◌, ◌+◌, Result, Err, drop, ap, sym, ◌∙◌, arith}
use Rattle.lnet_gates.specs.declared.signal.Signal.{Signal}
use Rattle.lnet_store.specs.declared.store.AddError.{AddError}
use Rattle.lnet_model.specs.Networks.{NetworkValue, live_count}
use Rattle.lnet_hashed.specs.Strashed.{Placed}
use Rattle.lnet_hashed.specs.Laid.{laid_steps, Laid, signal_at}
use Rattle.lnet_hashed.proofs.KeptViews.{told_twice}
use Rattle.lnet_hashed.proofs.LaidValues.{steps-from, laid_none, laid_done}
use Rattle.lnet_hashed.proofs.laying.lay.Goals as goal

error-same : {a b : AddError} → ◌≡◌ {A = Result Signal AddError} (Err a) (Err b) → a ≡ b
error-same e = cc

abbrev as-placed : NetworkValue → Signal → Placed
as-placed N s = record { network = N; signal = s }

pub returns-in-Err-clause-full : goal.returns-in-Err-clause-full
returns-in-Err-clause-full g c e =
    let next = ap (λ ss. live_count (laid_steps g.G.Gates.KIND ss c.loop-i.hashed.store.network c.loop-i.laying.places.items).network) (steps-from c.args.recipe.now.steps c.loop-i.i c.step-step.result c.step-step.ensures.value) in
    let all = ap (λ (l : Laid). live_count l.network) c.loop-i.invariant.laid in
    let full = c.lay_step.ensures.full (c.in-Err.is ∙ ap Err (error-same e)) (drop (c.loop-i.i + 1) c.args.recipe.now.steps) in
    omega arith

pub returns-in-Err-clause-memory : goal.returns-in-Err-clause-memory
returns-in-Err-clause-memory g c e =
    let next = ap (λ ss. live_count (laid_steps g.G.Gates.KIND ss c.loop-i.hashed.store.network c.loop-i.laying.places.items).network) (steps-from c.args.recipe.now.steps c.loop-i.i c.step-step.result c.step-step.ensures.value) in
    let all = ap (λ (l : Laid). live_count l.network) c.loop-i.invariant.laid in
    let grows = c.loop-i.invariant.grows in
    let want = c.lay_step.ensures.memory (c.in-Err.is ∙ ap Err (error-same e)) (drop (c.loop-i.i + 1) c.args.recipe.now.steps) in
    omega arith

pub loop-i-preserved : goal.loop-i-preserved
loop-i-preserved g c =
    let next = ap (λ ss. laid_steps g.G.Gates.KIND ss c.loop-i.hashed.store.network c.loop-i.laying.places.items) (steps-from c.args.recipe.now.steps c.loop-i.i c.step-step.result c.step-step.ensures.value) in
    let few = c.loop-i.invariant.few in
    let more = c.lay_step.ensures.few in
    let places = c.in_default.ensures.places in
    let before = c.loop-i.invariant.few_places in
    let grows = c.loop-i.invariant.grows in
    let grown = c.lay_step.ensures.grows in
    record {
      laid = sym (c.in_default.ensures.laid (drop (c.loop-i.i + 1) c.args.recipe.now.steps)) ∙ sym next ∙ c.loop-i.invariant.laid;
      live = c.lay_step.ensures.live;
      undoable = c.lay_step.ensures.undoable;
      undone_is = c.lay_step.ensures.undone ∙ c.loop-i.invariant.undone_is;
      few = omega arith;
      few_places = omega arith;
      room = c.lay_step.ensures.room;
      grows = omega arith;
      told = told_twice c.loop-i.invariant.told c.lay_step.ensures.told;
    }

pub returns-clause-laid : goal.returns-clause-laid
returns-clause-laid g c =
    let len = c.len-i-end.ensures.value in
    let test = c.loop-i-test.false in
    let end = sym c.loop-i.invariant.laid ∙ laid_none g.G.Gates.KIND c.args.recipe.now.steps c.loop-i.i c.loop-i.hashed.store.network c.loop-i.laying.places.items (omega arith) in
    let signal : signal_at c.loop-i.laying.places.items c.args.recipe.now.root ≡ c.signal_at.result =
    ap (λ ps. signal_at ps c.args.recipe.now.root) (sym c.as_slice.ensures.value) ∙ ap (signal_at c.as_slice.result.now) (sym c.root.ensures.value) ∙ sym c.signal_at.ensures in
    laid_done g.G.Gates.KIND c.args.hashed.now.store.network c.loop-i.hashed.store.network c.args.recipe.now c.args.leaves.now c.loop-i.laying.places.items end
    ∙ ap (as-placed c.loop-i.hashed.store.network) signal
