use Rattle.std.proofs.Common.{◌≡◌, inl, inr, false, map, get_or, sym, ap, ◌∙◌, arith}
use Rattle.lnet_model.specs.declared.view_spec.ViewKind.TheVariants as kinds
use Rattle.lnet_subscriptions.specs.Rolls.{same_kind}
use Rattle.lnet_subscriptions.proofs.Placed.{position-first, position-none, kind-told}
use Rattle.std.proofs.lemmas.Bool.Decides.{eqb_tells}
use Rattle.lnet_subscriptions.proofs.Shelved.{map-len}
use Rattle.lnet_subscriptions.proofs.roll.Subscriptions.place_of.Goals as goal

pub loop-i-preserved : goal.loop-i-preserved
loop-i-preserved g c k lt =
    let within = c.loop-i-test.true in let end = c.len-i-end.ensures in
    let here = kind-told (λ b. (goal.View-dyn g (b.vtable, b.value)).kind_of b.value) c.args.self.now.shelf.items c.args.kind c.loop-i.i c.index.result.now c.is_kind.result (omega arith) c.index.ensures (c.is_kind.ensures ∙ ap (same_kind c.args.kind) c.kind_of_view.ensures) ∙ c.if-is_kind.false in
    elim (eqb_tells k c.loop-i.i) as (λ _. same_kind c.args.kind (get_or (map (λ b. (goal.View-dyn g (b.vtable, b.value)).kind_of b.value) c.args.self.now.shelf.items) k kinds.Depth) ≡ false) [
      | inl p ↦ ap (λ j. same_kind c.args.kind (get_or (map (λ b. (goal.View-dyn g (b.vtable, b.value)).kind_of b.value) c.args.self.now.shelf.items) j kinds.Depth)) p.1 ∙ here
      | inr p ↦ (let ne = p.1 in c.loop-i.invariant k (omega arith))
    ]

pub returns-then-is_kind : goal.returns-then-is_kind
returns-then-is_kind g c =
    let within = c.loop-i-test.true in let end = c.len-i-end.ensures in
    let len = map-len (λ b. (goal.View-dyn g (b.vtable, b.value)).kind_of b.value) c.args.self.now.shelf.items in
    let here = kind-told (λ b. (goal.View-dyn g (b.vtable, b.value)).kind_of b.value) c.args.self.now.shelf.items c.args.kind c.loop-i.i c.index.result.now c.is_kind.result (omega arith) c.index.ensures (c.is_kind.ensures ∙ ap (same_kind c.args.kind) c.kind_of_view.ensures) ∙ c.if-is_kind.true in
    sym (position-first (same_kind c.args.kind) (map (λ b. (goal.View-dyn g (b.vtable, b.value)).kind_of b.value) c.args.self.now.shelf.items) c.loop-i.i kinds.Depth (omega arith) c.loop-i.invariant here)

pub returns : goal.returns
returns g c =
    let len = map-len (λ b. (goal.View-dyn g (b.vtable, b.value)).kind_of b.value) c.args.self.now.shelf.items in
    let past = c.loop-i-test.false in
    let end = c.len-i-end.ensures in
    sym (position-none (same_kind c.args.kind) (map (λ b. (goal.View-dyn g (b.vtable, b.value)).kind_of b.value) c.args.self.now.shelf.items) kinds.Depth (λ k h. c.loop-i.invariant k (omega arith)))
