use Rattle.std.proofs.Common.{sym, subst}
use Rattle.lnet_hashed.specs.Watches.{AreFitIn}
use Rattle.lnet_network.proofs.OfKind.{fit-kind, kind-fit}
use Rattle.lnet_network.proofs.network.Network.subscribe.Goals as goal

pub subscribe-requires-clause-fit : goal.subscribe-requires-clause-fit
subscribe-requires-clause-fit g c =
    kind-fit g.G.Gates.KIND c.self.inside.0.0.hashed.store.network c.self.inside.0.0.hashed.room
    (subst (λ n. AreFitIn (λ b. goal.View-dyn g (b.vtable, b.value)) n.core.network n.core.room n.watch) (sym c.self.view_is) c.requires.in_step)

pub returns-clause-in_step : goal.returns-clause-in_step
returns-clause-in_step g c = fit-kind g.G.Gates.KIND c.self.inside.0.0.hashed.store.network c.self.inside.0.0.hashed.room c.subscribe.ensures.fit
