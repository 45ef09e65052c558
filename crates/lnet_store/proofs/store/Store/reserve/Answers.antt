use Rattle.std.proofs.Common.{◌≡◌, ◌+◌, ap, arith}
use Rattle.lnet_model.specs.Networks.{live_count}
use Rattle.lnet_store.specs.StoreValues.{StoreValue}
use Rattle.lnet_store.proofs.StoreLemmas.{live-of, on-ok}
use Rattle.lnet_store.proofs.store.Store.reserve.Goals as goal

pub returns-then-wanted-room-clause-spare : goal.returns-then-wanted-room-clause-spare
returns-then-wanted-room-clause-spare c =
    let e = live-of c.self.inside.nodes.nodes c.self.inside.inputs.items c.self.inside.outputs.items c.args.self.now.network (ap (λ (h : StoreValue). h.network) c.self.view_is) in
    let s = ap (λ (h : StoreValue). h.spare) c.self.view_is in
    omega (arith, c.live-live.ensures.limit)

pub grow-requires-clause-more : goal.grow-requires-clause-more
grow-requires-clause-more c =
    let e = live-of c.self.inside.nodes.nodes c.self.inside.inputs.items c.self.inside.outputs.items c.args.self.now.network (ap (λ (h : StoreValue). h.network) c.self.view_is) in
    let s = ap (λ (h : StoreValue). h.spare) c.self.view_is in
    omega (arith, c.live-live.ensures.limit)

pub returns-clause-spare : goal.returns-clause-spare
returns-clause-spare c =
    let e = live-of c.self.inside.nodes.nodes c.self.inside.inputs.items c.self.inside.outputs.items c.args.self.now.network (ap (λ (h : StoreValue). h.network) c.self.view_is) in
    let s = ap (λ (h : StoreValue). h.spare) c.self.view_is in
    on-ok c.grow.result (λ (r : live_count c.args.self.now.network + c.grow.new.self.spare ≡ c.min.result). omega (arith, c.live-live.ensures.limit)) c.grow.ensures.spare
