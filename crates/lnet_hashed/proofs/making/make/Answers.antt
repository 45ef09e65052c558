use Rattle.std.proofs.Common.{◌≡◌, ◌<◌, IfOk, ap, subst, sym, ◌∙◌, min}
use Rattle.lnet_gates.specs.declared.planning.Plan.TheVariants.{Native, Steps}
use Rattle.lnet_model.specs.Networks.{live_count}
use Rattle.lnet_model.specs.Dags.{NUMBERS}
use Rattle.lnet_hashed.specs.Strashed.{Placed, placed}
use Rattle.lnet_hashed.proofs.LaidValues.{made_by}
use Rattle.lnet_hashed.proofs.making.make.Goals as goal

pub returns-in-Native-clause-made : goal.returns-in-Native-clause-made
returns-in-Native-clause-made g c =
    let same = made_by g.G.Gates.KIND c.args.hashed.now.store.network c.args.op c.args.operands.now Native (sym c.in-Native.is ∙ c.plan.ensures.plan) ∙ ap (placed g.G.Gates.KIND c.args.hashed.now.store.network) (sym c.gate_on-gate.ensures) in
    subst (λ (p : Placed). IfOk c.place.result (λ s. p ≡ record { network = c.place.new.hashed.store.network; signal = s })) (sym same) c.place.ensures.placed

pub returns-in-Native-clause-full : goal.returns-in-Native-clause-full
returns-in-Native-clause-full g c e =
    let same = made_by g.G.Gates.KIND c.args.hashed.now.store.network c.args.op c.args.operands.now Native (sym c.in-Native.is ∙ c.plan.ensures.plan) ∙ ap (placed g.G.Gates.KIND c.args.hashed.now.store.network) (sym c.gate_on-gate.ensures) in
    subst (λ (p : Placed). NUMBERS < live_count p.network) (sym same) (c.place.ensures.full.0 e)

pub returns-in-Native-clause-memory : goal.returns-in-Native-clause-memory
returns-in-Native-clause-memory g c e =
    let same = made_by g.G.Gates.KIND c.args.hashed.now.store.network c.args.op c.args.operands.now Native (sym c.in-Native.is ∙ c.plan.ensures.plan) ∙ ap (placed g.G.Gates.KIND c.args.hashed.now.store.network) (sym c.gate_on-gate.ensures) in
    subst (λ (p : Placed). c.args.hashed.now.room < min NUMBERS (live_count p.network)) (sym same) (c.place.ensures.memory e)

pub returns-in-Steps-clause-made : goal.returns-in-Steps-clause-made
returns-in-Steps-clause-made g c =
    let same = made_by g.G.Gates.KIND c.args.hashed.now.store.network c.args.op c.args.operands.now (Steps c.in-Steps.recipe) (sym c.in-Steps.is ∙ c.plan.ensures.plan) in
    subst (λ (p : Placed). IfOk c.lay.result (λ s. p ≡ record { network = c.lay.new.hashed.store.network; signal = s })) (sym same) c.lay.ensures.laid

pub returns-in-Steps-clause-full : goal.returns-in-Steps-clause-full
returns-in-Steps-clause-full g c e =
    let same = made_by g.G.Gates.KIND c.args.hashed.now.store.network c.args.op c.args.operands.now (Steps c.in-Steps.recipe) (sym c.in-Steps.is ∙ c.plan.ensures.plan) in
    subst (λ (p : Placed). NUMBERS < live_count p.network) (sym same) (c.lay.ensures.full e)

pub returns-in-Steps-clause-memory : goal.returns-in-Steps-clause-memory
returns-in-Steps-clause-memory g c e =
    let same = made_by g.G.Gates.KIND c.args.hashed.now.store.network c.args.op c.args.operands.now (Steps c.in-Steps.recipe) (sym c.in-Steps.is ∙ c.plan.ensures.plan) in
    subst (λ (p : Placed). c.args.hashed.now.room < min NUMBERS (live_count p.network)) (sym same) (c.lay.ensures.memory e)
