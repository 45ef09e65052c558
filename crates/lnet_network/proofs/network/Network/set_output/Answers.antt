use Rattle.std.proofs.Common.{IsSome, sym, ap, subst, ◌∙◌}
use Rattle.lnet_model.specs.Networks.{entry_at}
use Rattle.lnet_store.specs.StoreValues.{with_output}
use Rattle.lnet_hashed.specs.Strashed.{of_kind}
use Rattle.lnet_hashed.specs.Watches.{AreFitIn, AreToldIn}
use Rattle.lnet_hashed.proofs.KeptViews.{told_same}
use Rattle.lnet_network.proofs.Uses.{is-output}
use Rattle.lnet_network.proofs.OfKind.{entry-kind, fit-kind, kind-fit}
use Rattle.lnet_network.proofs.OtherOutputs.{set-outputs, strashed-outputs, room-outputs, fit-outputs, output-kind}
use Rattle.lnet_network.proofs.network.Network.set_output.Goals as goal

pub set_output-requires-clause-live : goal.set_output-requires-clause-live
set_output-requires-clause-live g c = subst IsSome (sym (ap (λ n. entry_at n.core.network c.args.s.node.0) c.self.view_is) ∙ entry-kind g.G.Gates.KIND c.self.inside.0.0.hashed.store.network c.args.s.node.0) c.requires.live

pub invariant_of-self : goal.invariant_of-self
invariant_of-self g c =
    let is = set-outputs c.self.inside.0.0.hashed.store.network c.set_output.new.self.network c.args.k c.args.s c.set_output.ensures.network in
    (strashed-outputs g.G.Gates.KIND c.self.inside.0.0.hashed.store.network c.set_output.new.self.network is c.self.invariant.0, room-outputs c.self.inside.0.0.hashed c.set_output.new.self is c.set_output.ensures.spare c.self.invariant.1)

pub returns-clause-set : goal.returns-clause-set
returns-clause-set g c =
    is-output c.args.self.now.core.network (of_kind g.G.Gates.KIND c.set_output.new.self.network) c.args.s c.args.k
    (ap (of_kind g.G.Gates.KIND) c.set_output.ensures.network ∙ output-kind g.G.Gates.KIND c.self.inside.0.0.hashed.store.network c.args.k c.args.s ∙ ap (λ n. with_output n.core.network c.args.k c.args.s) c.self.view_is)

pub returns-clause-in_step : goal.returns-clause-in_step
returns-clause-in_step g c =
    let is = set-outputs c.self.inside.0.0.hashed.store.network c.set_output.new.self.network c.args.k c.args.s c.set_output.ensures.network in
    let M = of_kind g.G.Gates.KIND c.set_output.new.self.network in
    subst (λ n. AreToldIn (λ b. goal.View-dyn g (b.vtable, b.value)) M c.self.inside.0.0.hashed.room n.watch c.self.inside.0.1.0) c.self.view_is
    (told_same (fit-kind g.G.Gates.KIND c.set_output.new.self.network c.self.inside.0.0.hashed.room
    (subst (λ M. AreFitIn (λ b. goal.View-dyn g (b.vtable, b.value)) M c.self.inside.0.0.hashed.room c.self.inside.0.1.0) (sym is) (fit-outputs c.self.inside.0.0.hashed.store.network c.set_output.new.self.network.outputs c.self.inside.0.0.hashed.room
    (kind-fit g.G.Gates.KIND c.self.inside.0.0.hashed.store.network c.self.inside.0.0.hashed.room
    (subst (λ n. AreFitIn (λ b. goal.View-dyn g (b.vtable, b.value)) n.core.network n.core.room n.watch) (sym c.self.view_is) c.requires.in_step))))))
