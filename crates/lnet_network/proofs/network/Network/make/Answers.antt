use Rattle.std.proofs.Common.{◌<◌, IfOk, Result, Ok, Err, sym, ap, subst, ◌∙◌, min}
use Rattle.lnet_model.specs.Networks.{live_count}
use Rattle.lnet_model.specs.Along.{nodes_read}
use Rattle.lnet_model.specs.Changes.{AreLive}
use Rattle.lnet_model.specs.Dags.{NUMBERS}
use Rattle.lnet_hashed.specs.Strashed.{Placed}
use Rattle.lnet_hashed.specs.Laid.{made}
use Rattle.lnet_hashed.specs.Strashed.{of_kind}
use Rattle.lnet_hashed.specs.Watches.{AreFitIn, AreToldIn}
use Rattle.lnet_network.proofs.OfKind.{strashed-after, kinded, count-kind, made-kind, live-kind, kind-fit, told-kind}
use Rattle.lnet_network.proofs.network.Network.make.Goals as goal

if-ok : {A E : Type 0} {P Q : A → Type 0} (r : Result A E) → ((a : A) → P a → Q a) → IfOk r P → IfOk r Q
if-ok (Ok a) f h = f a h
if-ok (Err e) f h = tt

pub make-requires-clause-live : goal.make-requires-clause-live
make-requires-clause-live g c =
    live-kind g.G.Gates.KIND c.self.inside.0.0.hashed.store.network (nodes_read c.args.operands.now)
    (subst (λ X. AreLive X (nodes_read c.args.operands.now)) (sym (ap (λ n. n.core.network) c.self.view_is)) c.requires.live)

pub make-requires-clause-fit : goal.make-requires-clause-fit
make-requires-clause-fit g c =
    kind-fit g.G.Gates.KIND c.self.inside.0.0.hashed.store.network c.self.inside.0.0.hashed.room
    (subst (λ n. AreFitIn (λ b. goal.View-dyn g (b.vtable, b.value)) n.core.network n.core.room n.watch) (sym c.self.view_is) c.requires.in_step)

pub invariant_of-self : goal.invariant_of-self
invariant_of-self g c = (
  strashed-after g.G.Gates.KIND c.self.inside.0.0.hashed.store.network c.make.new.hashed.store.network c.args.op c.args.operands.now c.requires.arity
      c.word_fits.ensures c.make.result c.make.ensures.made c.make.ensures.refused c.self.invariant.0,
  c.make.ensures.room,
)

pub returns-clause-made : goal.returns-clause-made
returns-clause-made g c =
    let same =
    ap (λ n. made g.G.Gates.KIND n.core.network c.args.op c.args.operands.now) (sym c.self.view_is)
    ∙ made-kind g.G.Gates.KIND c.self.inside.0.0.hashed.store.network c.args.op c.args.operands.now in
    if-ok c.make.result (λ s p. same ∙ ap (kinded g.G.Gates.KIND) p) c.make.ensures.made

pub returns-clause-full : goal.returns-clause-full
returns-clause-full g c e =
    let same =
    ap (λ n. made g.G.Gates.KIND n.core.network c.args.op c.args.operands.now) (sym c.self.view_is)
    ∙ made-kind g.G.Gates.KIND c.self.inside.0.0.hashed.store.network c.args.op c.args.operands.now in
    subst (λ (p : Placed). NUMBERS < live_count p.network) (sym same)
    (subst (λ n. NUMBERS < n)
    (sym (count-kind g.G.Gates.KIND (made g.G.Gates.KIND c.self.inside.0.0.hashed.store.network c.args.op c.args.operands.now).network)) (c.make.ensures.full e))

pub returns-clause-memory : goal.returns-clause-memory
returns-clause-memory g c e =
    let same =
    ap (λ n. made g.G.Gates.KIND n.core.network c.args.op c.args.operands.now) (sym c.self.view_is)
    ∙ made-kind g.G.Gates.KIND c.self.inside.0.0.hashed.store.network c.args.op c.args.operands.now in
    let more =
    subst (λ (p : Placed). c.self.inside.0.0.hashed.room < min NUMBERS (live_count p.network)) (sym same)
    (subst (λ n. c.self.inside.0.0.hashed.room < min NUMBERS n)
    (sym (count-kind g.G.Gates.KIND (made g.G.Gates.KIND c.self.inside.0.0.hashed.store.network c.args.op c.args.operands.now).network)) (c.make.ensures.memory e)) in
    subst (λ n. n < min NUMBERS (live_count (made g.G.Gates.KIND c.args.self.now.core.network c.args.op c.args.operands.now).network)) (ap (λ n. n.core.room) c.self.view_is) more

pub returns-clause-in_step : goal.returns-clause-in_step
returns-clause-in_step g c =
    subst (λ n. AreToldIn (λ b. goal.View-dyn g (b.vtable, b.value)) (of_kind g.G.Gates.KIND c.make.new.hashed.store.network) c.make.new.hashed.room n.watch c.make.new.watch) c.self.view_is
    (told-kind g.G.Gates.KIND c.make.new.hashed.store.network c.make.new.hashed.room c.make.ensures.told)
