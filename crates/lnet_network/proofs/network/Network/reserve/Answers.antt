use Rattle.std.proofs.Common.{arith, ◌≡◌, ◌≤◌, ◌+◌, ◌-◌, min, ℕ, Result, Ok, Err, OnOk, sym, ap, subst, ◌∙◌}
use Rattle.lnet_hashed.specs.Watches.{AreFitIn, AreToldIn}
use Rattle.lnet_model.specs.Dags.{NUMBERS}
use Rattle.lnet_model.specs.Networks.{live_count}
use Rattle.lnet_hashed.specs.Strashed.{of_kind}
use Rattle.lnet_network.proofs.OfKind.{kind-fit, told-kind, count-kind}
use Rattle.lnet_network.proofs.network.Network.reserve.Goals as goal

pub reserve-requires-clause-fit : goal.reserve-requires-clause-fit
reserve-requires-clause-fit g c =
    kind-fit g.G.Gates.KIND c.self.inside.0.0.hashed.store.network c.self.inside.0.0.hashed.room
    (subst (λ n. AreFitIn (λ b. goal.View-dyn g (b.vtable, b.value)) n.core.network n.core.room n.watch) (sym c.self.view_is) c.requires.in_step)

enough : (numbers live count room m : ℕ) → count ≡ live → m ≡ min numbers (1048576 - live) → live + m ≤ room → min numbers (NUMBERS - count) ≤ room - count
enough numbers live count room m same is h = omega arith

pub returns-then-wanted-self-clause-spare : goal.returns-then-wanted-self-clause-spare
returns-then-wanted-self-clause-spare g c =
    subst (λ n. min c.args.numbers (NUMBERS - live_count n.core.network) ≤ n.core.room - live_count n.core.network) c.self.view_is
    (enough c.args.numbers c.live_count-live.result (live_count (of_kind g.G.Gates.KIND c.self.inside.0.0.hashed.store.network)) c.self.inside.0.0.hashed.room c.min.result (count-kind g.G.Gates.KIND c.self.inside.0.0.hashed.store.network ∙ sym c.live_count-live.ensures.value) c.min.ensures c.if-wanted-self.true)

spare-ok : {A E : Type 0} (numbers live count newer room m : ℕ) (r : Result A E) → count ≡ live → newer ≡ live → m ≡ min numbers (1048576 - live) → OnOk r (room ≡ live + m) → OnOk r (min numbers (NUMBERS - count) ≤ room - newer)
spare-ok numbers live count newer room m (Ok x) same new is h = omega arith
spare-ok numbers live count newer room m (Err e) same new is h = h

pub returns-clause-spare : goal.returns-clause-spare
returns-clause-spare g c =
    spare-ok c.args.numbers c.live_count-live.result (live_count c.args.self.now.core.network) _ c.reserve.new.hashed.room c.min.result c.reserve.result (sym (ap (λ n. live_count n.core.network) c.self.view_is) ∙ count-kind g.G.Gates.KIND c.self.inside.0.0.hashed.store.network ∙ sym c.live_count-live.ensures.value) (count-kind g.G.Gates.KIND c.reserve.new.hashed.store.network ∙ ap live_count c.reserve.ensures.network ∙ sym c.live_count-live.ensures.value) c.min.ensures c.reserve.ensures.grown

pub returns-clause-in_step : goal.returns-clause-in_step
returns-clause-in_step g c =
    subst (λ n. AreToldIn (λ b. goal.View-dyn g (b.vtable, b.value)) (of_kind g.G.Gates.KIND c.reserve.new.hashed.store.network) c.reserve.new.hashed.room n.watch c.reserve.new.watch) c.self.view_is
    (told-kind g.G.Gates.KIND c.reserve.new.hashed.store.network c.reserve.new.hashed.room c.reserve.ensures.told)
