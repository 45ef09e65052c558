use Rattle.std.proofs.Common.{map, sym, ap, ◌+◌, ◌∙◌, arith}
use Rattle.std.proofs.lemmas.List.Sums.{count_by_more_yes, count_by_more_no}
use Rattle.lnet_model.specs.declared.view_spec.ViewKind.TheVariants as kinds
use Rattle.lnet_subscriptions.specs.Rolls.{same_kind}
use Rattle.lnet_subscriptions.proofs.Placed.{kind-told}
use Rattle.lnet_subscriptions.proofs.Shelved.{map-len}
use Rattle.lnet_subscriptions.proofs.roll.Subscriptions.shelf_len.Goals as goal
use Rattle.lnet_subscriptions.proofs.roll.Subscriptions.shelf_len.Goals.{then-is_kind, else-is_kind}

pub loop-i-preserved : goal.loop-i-preserved
loop-i-preserved g c =
    let xs = c.args.self.now.shelf.items in
    let within = c.loop-i-test.true in
    let end = c.len-i-end.ensures in
    let len = map-len (λ b. (goal.View-dyn g (b.vtable, b.value)).kind_of b.value) xs in
    let here = kind-told (λ b. (goal.View-dyn g (b.vtable, b.value)).kind_of b.value) xs c.args.kind c.loop-i.i c.index.result.now c.is_kind.result (omega arith) c.index.ensures (c.is_kind.ensures ∙ ap (same_kind c.args.kind) c.kind_of_view.ensures) in
    elim c.if-is_kind.branch [
      | then-is_kind w ↦ w.count-is ∙ ap (λ n. n + 1) c.loop-i.invariant ∙ sym (count_by_more_yes (same_kind c.args.kind) (map (λ b. (goal.View-dyn g (b.vtable, b.value)).kind_of b.value) xs) c.loop-i.i kinds.Depth (omega arith) (here ∙ w.if-is_kind.true))
      | else-is_kind w ↦ w.count-is ∙ c.loop-i.invariant ∙ sym (count_by_more_no (same_kind c.args.kind) (map (λ b. (goal.View-dyn g (b.vtable, b.value)).kind_of b.value) xs) c.loop-i.i kinds.Depth (omega arith) (here ∙ w.if-is_kind.false))
    ]
