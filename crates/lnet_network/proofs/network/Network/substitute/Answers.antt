use Rattle.std.proofs.Common.{sym, subst}
use Rattle.lnet_model.specs.Along.{Depends}
use Rattle.lnet_model.specs.Changes.{IsGateAt}
use Rattle.lnet_model.specs.Networks.{IsLive}
use Rattle.lnet_hashed.specs.Strashed.{of_kind}
use Rattle.lnet_hashed.specs.Watches.{AreFitIn, AreToldIn}
use Rattle.lnet_substitution.specs.Substitutions.{Substitutes}
use Rattle.lnet_substitution.proofs.OtherKinds.{substitutes-of_kind}
use Rattle.lnet_network.proofs.OfKind.{kind-fit, told-kind}
use Rattle.lnet_network.proofs.SeenAs.{kind-gate, kind-live, reaches-kind}
use Rattle.lnet_network.proofs.network.Network.substitute.Goals as goal

pub substitute-requires-clause-gate : goal.substitute-requires-clause-gate
substitute-requires-clause-gate g c = kind-gate g.G.Gates.KIND c.self.inside.0.0.hashed.store.network c.args.gate.0 (subst (λ n. IsGateAt n.core.network c.args.gate.0) (sym c.self.view_is) c.requires.gate)

pub substitute-requires-clause-live : goal.substitute-requires-clause-live
substitute-requires-clause-live g c = kind-live g.G.Gates.KIND c.self.inside.0.0.hashed.store.network c.args.signal.node.0 (subst (λ n. IsLive n.core.network c.args.signal.node.0) (sym c.self.view_is) c.requires.live)

pub substitute-requires-clause-free : goal.substitute-requires-clause-free
substitute-requires-clause-free g c d = c.requires.free (subst (λ n. Depends n.core.network c.args.signal c.args.gate.0) c.self.view_is (reaches-kind g.G.Gates.KIND c.self.inside.0.0.hashed.store.network c.args.signal.node.0 c.args.gate.0 d))

pub substitute-requires-clause-fit : goal.substitute-requires-clause-fit
substitute-requires-clause-fit g c =
    kind-fit g.G.Gates.KIND c.self.inside.0.0.hashed.store.network c.self.inside.0.0.hashed.room
    (subst (λ n. AreFitIn (λ b. goal.View-dyn g (b.vtable, b.value)) n.core.network n.core.room n.watch) (sym c.self.view_is) c.requires.in_step)

pub invariant_of-self : goal.invariant_of-self
invariant_of-self g c = (c.substitute.ensures.strashed, c.substitute.ensures.room)

pub returns-clause-substitutes : goal.returns-clause-substitutes
returns-clause-substitutes g c =
    subst (λ n. Substitutes g.G.Gates.KIND n.core.network c.args.gate.0 c.args.signal (of_kind g.G.Gates.KIND c.substitute.new.hashed.store.network)) c.self.view_is (substitutes-of_kind g.G.Gates.KIND g.G.Gates.KIND c.self.inside.0.0.hashed.store.network c.args.gate.0 c.args.signal c.substitute.new.hashed.store.network c.substitute.ensures.substitutes)

pub returns-clause-in_step : goal.returns-clause-in_step
returns-clause-in_step g c =
    subst (λ n. AreToldIn (λ b. goal.View-dyn g (b.vtable, b.value)) (of_kind g.G.Gates.KIND c.substitute.new.hashed.store.network) c.substitute.new.hashed.room n.watch c.substitute.new.watch) c.self.view_is
    (told-kind g.G.Gates.KIND c.substitute.new.hashed.store.network c.substitute.new.hashed.room c.substitute.ensures.told)
