use Rattle.std.proofs.Common.{◌≡◌, ◌<◌, ℕ, false, get_or, map}
use Rattle.lnet_model.specs.declared.view_spec.ViewKind.TheVariants as kinds
use Rattle.lnet_subscriptions.specs.Rolls.{same_kind}
use Rattle.lnet_subscriptions.proofs.roll.Subscriptions.place_of.Given as goal

-- no view before this one is of the kind
abbrev pub invariant-loop-i : goal.invariant-loop-i
invariant-loop-i g l = (k : ℕ) → k < l.i → same_kind l.kind (get_or (map (λ b. (goal.View-dyn g (b.vtable, b.value)).kind_of b.value) l.self.shelf.items) k kinds.Depth) ≡ false
