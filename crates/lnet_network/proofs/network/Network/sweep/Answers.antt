use Rattle.std.proofs.Common.{sym, subst}
use Rattle.lnet_hashed.specs.Strashed.{of_kind}
use Rattle.lnet_hashed.specs.Swept.{IsSwept}
use Rattle.lnet_hashed.specs.Watches.{AreFitIn, AreToldIn}
use Rattle.lnet_network.proofs.OfKind.{swept-kind, swept-strashed, kind-fit, told-kind}
use Rattle.lnet_network.proofs.network.Network.sweep.Goals as goal

pub sweep-requires-clause-fit : goal.sweep-requires-clause-fit
sweep-requires-clause-fit g c =
    kind-fit g.G.Gates.KIND c.self.inside.0.0.hashed.store.network c.self.inside.0.0.hashed.room
    (subst (λ n. AreFitIn (λ b. goal.View-dyn g (b.vtable, b.value)) n.core.network n.core.room n.watch) (sym c.self.view_is) c.requires.in_step)

pub invariant_of-self : goal.invariant_of-self
invariant_of-self g c = (swept-strashed g.G.Gates.KIND c.self.inside.0.0.hashed.store.network c.sweep.new.hashed.store.network c.sweep.ensures.network c.self.invariant.0, c.sweep.ensures.room)

pub returns-clause-network : goal.returns-clause-network
returns-clause-network g c =
    subst (λ n. IsSwept n.core.network (of_kind g.G.Gates.KIND c.sweep.new.hashed.store.network)) c.self.view_is (swept-kind g.G.Gates.KIND c.self.inside.0.0.hashed.store.network c.sweep.new.hashed.store.network c.sweep.ensures.network)

pub returns-clause-in_step : goal.returns-clause-in_step
returns-clause-in_step g c =
    subst (λ n. AreToldIn (λ b. goal.View-dyn g (b.vtable, b.value)) (of_kind g.G.Gates.KIND c.sweep.new.hashed.store.network) c.sweep.new.hashed.room n.watch c.sweep.new.watch) c.self.view_is
    (told-kind g.G.Gates.KIND c.sweep.new.hashed.store.network c.sweep.new.hashed.room c.sweep.ensures.told)
