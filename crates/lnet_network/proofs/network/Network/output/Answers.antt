use Rattle.std.proofs.Common.{length, IsSome, Result, Ok, Err, IfOk, OnOk, sym, ap, subst, ◌∙◌}
use Rattle.lnet_model.specs.Networks.{entry_at}
use Rattle.lnet_store.specs.StoreValues.{with_new_output}
use Rattle.lnet_hashed.specs.Strashed.{of_kind}
use Rattle.lnet_hashed.specs.Watches.{AreFitIn, AreToldIn}
use Rattle.lnet_hashed.proofs.KeptViews.{told_same}
use Rattle.lnet_network.proofs.Uses.{answer-new_output}
use Rattle.lnet_network.proofs.OfKind.{entry-kind, fit-kind, kind-fit}
use Rattle.lnet_network.proofs.OtherOutputs.{either-outputs, strashed-outputs, room-outputs, fit-outputs, new-output-kind}
use Rattle.lnet_network.proofs.network.Network.output.Goals as goal

then-ok : {A E : Type 0} (P Q : Type 0) (r : Result A E) → (P → Q) → OnOk r P → OnOk r Q
then-ok P Q (Ok x) f h = f h
then-ok P Q (Err e) f h = h

if-ok : {A E : Type 0} {P Q : A → Type 0} (r : Result A E) → ((a : A) → P a → Q a) → IfOk r P → IfOk r Q
if-ok (Ok a) f h = f a h
if-ok (Err e) f h = tt

pub add_output-requires-clause-live : goal.add_output-requires-clause-live
add_output-requires-clause-live g c =
    subst IsSome (sym (ap (λ n. entry_at n.core.network c.args.s.node.0) c.self.view_is) ∙ entry-kind g.G.Gates.KIND c.self.inside.0.0.hashed.store.network c.args.s.node.0) c.requires.live

pub invariant_of-self : goal.invariant_of-self
invariant_of-self g c =
    let is = either-outputs c.self.inside.0.0.hashed.store.network c.add_output.new.self.network c.args.s _ c.add_output.result c.add_output.ensures.network c.add_output.ensures.refused in
    (strashed-outputs g.G.Gates.KIND c.self.inside.0.0.hashed.store.network c.add_output.new.self.network is c.self.invariant.0, room-outputs c.self.inside.0.0.hashed c.add_output.new.self is c.add_output.ensures.spare c.self.invariant.1)

pub returns-clause-added : goal.returns-clause-added
returns-clause-added g c =
    let is = then-ok _ _ c.add_output.result (λ is. ap (of_kind g.G.Gates.KIND) is ∙ new-output-kind g.G.Gates.KIND c.self.inside.0.0.hashed.store.network c.args.s ∙ ap (λ n. with_new_output n.core.network c.args.s) c.self.view_is) c.add_output.ensures.network in
    let place = if-ok c.add_output.result (λ k e. e ∙ ap (λ n. length n.core.network.outputs) c.self.view_is) c.add_output.ensures.place in
    answer-new_output c.args.self.now.core.network (of_kind g.G.Gates.KIND c.add_output.new.self.network) c.args.s c.add_output.result place is

pub returns-clause-in_step : goal.returns-clause-in_step
returns-clause-in_step g c =
    let is = either-outputs c.self.inside.0.0.hashed.store.network c.add_output.new.self.network c.args.s _ c.add_output.result c.add_output.ensures.network c.add_output.ensures.refused in
    let M = of_kind g.G.Gates.KIND c.add_output.new.self.network in
    subst (λ n. AreToldIn (λ b. goal.View-dyn g (b.vtable, b.value)) M c.self.inside.0.0.hashed.room n.watch c.self.inside.0.1.0) c.self.view_is
    (told_same (fit-kind g.G.Gates.KIND c.add_output.new.self.network c.self.inside.0.0.hashed.room
    (subst (λ M. AreFitIn (λ b. goal.View-dyn g (b.vtable, b.value)) M c.self.inside.0.0.hashed.room c.self.inside.0.1.0) (sym is) (fit-outputs c.self.inside.0.0.hashed.store.network c.add_output.new.self.network.outputs c.self.inside.0.0.hashed.room
    (kind-fit g.G.Gates.KIND c.self.inside.0.0.hashed.store.network c.self.inside.0.0.hashed.room
    (subst (λ n. AreFitIn (λ b. goal.View-dyn g (b.vtable, b.value)) n.core.network n.core.room n.watch) (sym c.self.view_is) c.requires.in_step))))))
