use Rattle.std.proofs.Common.{◌≡◌, ◌<◌, ◌≤◌, ℕ, false, IfOk, Result, Ok, Err, sym, ap, subst, ◌∙◌}
use Rattle.lnet_gates.specs.declared.signal.Signal.{Signal}
use Rattle.lnet_gates.specs.declared.signal.Node.{Node}
use Rattle.lnet_store.specs.declared.store.AddError.{AddError}
use Rattle.lnet_model.specs.Networks.{live_count}
use Rattle.lnet_model.specs.Dags.{NUMBERS}
use Rattle.lnet_store.specs.StoreValues.{with_input}
use Rattle.lnet_hashed.specs.Strashed.{of_kind, least_free}
use Rattle.lnet_hashed.specs.Watches.{AreFitIn, AreToldIn}
use Rattle.lnet_network.specs.Uses.{IsEntered}
use Rattle.lnet_network.proofs.Uses.{is-entered}
use Rattle.lnet_network.proofs.OfKind.{count-kind, input-kind, free-kind, strashed-entered, kind-fit, told-kind}
use Rattle.lnet_network.proofs.network.Network.input.Goals.{in-Ok, in-Err}
use Rattle.lnet_network.proofs.network.Network.input.Goals as goal

abbrev as-plain : ℕ → Signal
as-plain n = record { node = record { 0 = n }; complement = false }

error-signal : {a b : AddError} → ◌≡◌ {A = Result Signal AddError} (Err a) (Err b) → a ≡ b
error-signal e = cc

error-node : {a b : AddError} → ◌≡◌ {A = Result Node AddError} (Err a) (Err b) → a ≡ b
error-node e = cc

no-both : {A : Type 0} {s : Signal} {a : AddError} (r : Result Signal AddError) → r ≡ Ok s → r ≡ Err a → A
no-both r p q = cc

no-node : {A : Type 0} {n : Node} {a : AddError} (r : Result Node AddError) → r ≡ Ok n → r ≡ Err a → A
no-node r p q = cc

pub add_input-requires-clause-fit : goal.add_input-requires-clause-fit
add_input-requires-clause-fit g c =
    kind-fit g.G.Gates.KIND c.self.inside.0.0.hashed.store.network c.self.inside.0.0.hashed.room
    (subst (λ n. AreFitIn (λ b. goal.View-dyn g (b.vtable, b.value)) n.core.network n.core.room n.watch) (sym c.self.view_is) c.requires.in_step)

pub invariant_of-self : goal.invariant_of-self
invariant_of-self g c = (strashed-entered g.G.Gates.KIND c.self.inside.0.0.hashed.store.network c.add_input.new.hashed.store.network _ c.add_input.result c.add_input.ensures.network c.add_input.ensures.refused c.self.invariant.0, c.add_input.ensures.room)

pub returns-clause-entered : goal.returns-clause-entered
returns-clause-entered g c =
    let N = c.args.self.now.core.network in
    let M = of_kind g.G.Gates.KIND c.add_input.new.hashed.store.network in
    let free = sym (free-kind g.G.Gates.KIND c.self.inside.0.0.hashed.store.network) in
    elim c.match-add_input.branch [
      | in-Ok w ↦ subst (λ r. IfOk r (λ (s : Signal). IsEntered N M s)) (sym w.result-is) (is-entered N M _
          (ap as-plain (w.in-Ok.ensures.node ∙ free ∙ ap (λ n. least_free n.core.network) c.self.view_is))
          (ap (of_kind g.G.Gates.KIND) w.in-Ok.ensures.network ∙ input-kind g.G.Gates.KIND c.self.inside.0.0.hashed.store.network w.in-Ok.node.0
          ∙ ap (with_input (of_kind g.G.Gates.KIND c.self.inside.0.0.hashed.store.network)) (w.in-Ok.ensures.node ∙ free) ∙ ap (λ n. with_input n.core.network (least_free n.core.network))
          c.self.view_is))
      | in-Err w ↦ subst (λ r. IfOk r (λ (s : Signal). IsEntered N M s)) (sym w.result-is) tt
    ]

pub returns-clause-full : goal.returns-clause-full
returns-clause-full g c = elim c.match-add_input.branch [
  | in-Ok w ↦ (λ e. no-both c.match-add_input.result w.result-is e, λ l. no-node c.add_input.result w.in-Ok.is (c.add_input.ensures.full.1 ((sym (count-kind g.G.Gates.KIND c.self.inside.0.0.hashed.store.network) ∙ ap (λ n. live_count n.core.network) c.self.view_is) ∙ l)))
  | in-Err w ↦ (λ e. sym (sym (count-kind g.G.Gates.KIND c.self.inside.0.0.hashed.store.network) ∙ ap (λ n. live_count n.core.network) c.self.view_is) ∙ c.add_input.ensures.full.0 (w.in-Err.is ∙ ap Err (error-signal (sym w.result-is ∙ e))), λ l. w.result-is ∙ ap Err (error-node (sym w.in-Err.is ∙ c.add_input.ensures.full.1 ((sym (count-kind g.G.Gates.KIND c.self.inside.0.0.hashed.store.network) ∙ ap (λ n. live_count n.core.network) c.self.view_is) ∙ l))))
]

pub returns-clause-memory : goal.returns-clause-memory
returns-clause-memory g c e = elim c.match-add_input.branch [
  | in-Ok w ↦ no-both c.match-add_input.result w.result-is e
  | in-Err w ↦ subst (λ n. (n.core.room ≤ live_count n.core.network) × (live_count n.core.network < NUMBERS)) c.self.view_is (subst (λ x. (c.self.inside.0.0.hashed.room ≤ x) × (x < NUMBERS)) (sym (count-kind g.G.Gates.KIND c.self.inside.0.0.hashed.store.network)) (c.add_input.ensures.memory (w.in-Err.is ∙ ap Err (error-signal (sym w.result-is ∙ e)))))
]

pub returns-clause-in_step : goal.returns-clause-in_step
returns-clause-in_step g c =
    subst (λ n. AreToldIn (λ b. goal.View-dyn g (b.vtable, b.value)) (of_kind g.G.Gates.KIND c.add_input.new.hashed.store.network) c.add_input.new.hashed.room n.watch c.add_input.new.watch)
    c.self.view_is
    (told-kind g.G.Gates.KIND c.add_input.new.hashed.store.network c.add_input.new.hashed.room c.add_input.ensures.told)
