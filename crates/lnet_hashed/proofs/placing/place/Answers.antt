use Rattle.std.proofs.Common.{◌≡◌, ◌<◌, IfOk, sym, ap, subst, ◌∙◌, arith, min}
use Rattle.lnet_gates.specs.NormalLaws.{IsNativeForm}
use Rattle.lnet_gates.specs.Natives.{IsNativeGate}
use Rattle.lnet_gates.specs.declared.normal.Normal.TheVariants.{Is, Gate}
use Rattle.lnet_gates.specs.Lawful.KindLaws.{kind_laws}
use Rattle.lnet_model.specs.Networks.{live_count}
use Rattle.lnet_model.specs.Dags.{NUMBERS}
use Rattle.lnet_hashed.specs.Strashed.{Placed}
use Rattle.lnet_hashed.proofs.Places.{key-live, form-live, placed-as}
use Rattle.lnet_gates.specs.Forms.{form_of}
use Rattle.lnet_hashed.proofs.placing.place.Goals as goal

pub place_key-requires-clause-live : goal.place_key-requires-clause-live
place_key-requires-clause-live g c =
    key-live c.args.hashed.now.store.network c.args.gate.now (form_of g.G.Gates.KIND c.args.gate.now) c.in-Gate.key c.in-Gate.phase c.live_count-live.ensures.stored.whole c.requires.live ((kind_laws g.G.Gates.KIND).names c.args.gate.now c.requires.native) (sym c.normal.ensures ∙ c.in-Gate.is)

pub place_key-requires-clause-arity : goal.place_key-requires-clause-arity
place_key-requires-clause-arity g c =
    (subst (IsNativeForm (IsNativeGate g.G.Gates.KIND)) (sym c.normal.ensures ∙ c.in-Gate.is) ((kind_laws g.G.Gates.KIND).native c.args.gate.now c.requires.native)).takes

pub returns-in-Is-clause-placed : goal.returns-in-Is-clause-placed
returns-in-Is-clause-placed g c = placed-as g.G.Gates.KIND c.args.hashed.now.store.network c.args.gate.now (Is c.in-Is.signal) (sym c.normal.ensures ∙ c.in-Is.is)

pub returns-in-Is-clause-full : goal.returns-in-Is-clause-full
returns-in-Is-clause-full g c =
    let limit = c.live_count-live.ensures.limit in
    let same = ap (λ (p : Placed). live_count p.network) (placed-as g.G.Gates.KIND c.args.hashed.now.store.network c.args.gate.now (Is c.in-Is.signal) (sym c.normal.ensures ∙ c.in-Is.is)) in
    (λ e. cc, λ l. absurd (omega arith))

pub returns-in-Gate-clause-placed : goal.returns-in-Gate-clause-placed
returns-in-Gate-clause-placed g c =
    let same = placed-as g.G.Gates.KIND c.args.hashed.now.store.network c.args.gate.now (Gate c.in-Gate.key c.in-Gate.phase) (sym c.normal.ensures ∙ c.in-Gate.is) in
    subst (λ (p : Placed). IfOk c.place_key.result (λ s. p ≡ record { network = c.place_key.new.hashed.store.network; signal = s })) (sym same) c.place_key.ensures.placed

pub returns-in-Gate-clause-full : goal.returns-in-Gate-clause-full
returns-in-Gate-clause-full g c =
    let same = ap (λ (p : Placed). live_count p.network) (placed-as g.G.Gates.KIND c.args.hashed.now.store.network c.args.gate.now (Gate c.in-Gate.key c.in-Gate.phase) (sym c.normal.ensures ∙ c.in-Gate.is)) in
    (λ e. subst (λ n. NUMBERS < n) (sym same) (c.place_key.ensures.full.0 e), λ l. c.place_key.ensures.full.1 (subst (λ n. NUMBERS < n) same l))

pub returns-in-Gate-clause-memory : goal.returns-in-Gate-clause-memory
returns-in-Gate-clause-memory g c e =
    let same = ap (λ (p : Placed). live_count p.network) (placed-as g.G.Gates.KIND c.args.hashed.now.store.network c.args.gate.now (Gate c.in-Gate.key c.in-Gate.phase) (sym c.normal.ensures ∙ c.in-Gate.is)) in
    subst (λ n. c.args.hashed.now.room < min NUMBERS n) (sym same) (c.place_key.ensures.memory e)

pub returns-in-Is-clause-live : goal.returns-in-Is-clause-live
returns-in-Is-clause-live g c =
    form-live c.args.hashed.now.store.network c.args.gate.now (form_of g.G.Gates.KIND c.args.gate.now) c.in-Is.signal c.live_count-live.ensures.stored.whole c.requires.live ((kind_laws g.G.Gates.KIND).names c.args.gate.now c.requires.native) (sym c.normal.ensures ∙ c.in-Is.is)
