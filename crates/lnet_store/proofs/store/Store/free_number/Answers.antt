use Rattle.std.proofs.Common.{ap, refl, arith}
use Rattle.lnet_store.specs.StoreValues.{StoreValue}
use Rattle.lnet_store.proofs.StoreLemmas.{live-of}
use Rattle.lnet_store.proofs.store.Store.free_number.Goals as goal

pub make_space-requires : goal.make_space-requires
make_space-requires c =
    let e = live-of c.self.inside.nodes.nodes c.self.inside.inputs.items c.self.inside.outputs.items c.args.self.now.network (ap (λ (h : StoreValue). h.network) c.self.view_is) in
    let s = ap (λ (h : StoreValue). h.spare) c.self.view_is in
    omega (arith, c.live.ensures.limit)

pub returns-then-live-eq-NUMBER_LIMIT-clause-full : goal.returns-then-live-eq-NUMBER_LIMIT-clause-full
returns-then-live-eq-NUMBER_LIMIT-clause-full c =
    let e = live-of c.self.inside.nodes.nodes c.self.inside.inputs.items c.self.inside.outputs.items c.args.self.now.network (ap (λ (h : StoreValue). h.network) c.self.view_is) in
    let s = ap (λ (h : StoreValue). h.spare) c.self.view_is in
    (λ q. omega arith, λ q. refl)

pub returns-in-Ok-clause-full : goal.returns-in-Ok-clause-full
returns-in-Ok-clause-full c =
    let e = live-of c.self.inside.nodes.nodes c.self.inside.inputs.items c.self.inside.outputs.items c.args.self.now.network (ap (λ (h : StoreValue). h.network) c.self.view_is) in
    (λ q. cc, λ q. absurd (c.if-live-eq-NUMBER_LIMIT.false (omega arith)))

pub returns-in-Err-clause-full : goal.returns-in-Err-clause-full
returns-in-Err-clause-full c =
    let e = live-of c.self.inside.nodes.nodes c.self.inside.inputs.items c.self.inside.outputs.items c.args.self.now.network (ap (λ (h : StoreValue). h.network) c.self.view_is) in
    (λ q. cc, λ q. absurd (c.if-live-eq-NUMBER_LIMIT.false (omega arith)))
