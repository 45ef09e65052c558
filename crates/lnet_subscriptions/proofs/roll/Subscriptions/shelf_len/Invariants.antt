use Rattle.std.proofs.Common.{◌≡◌, map}
use Rattle.std.specs.Prelude.{take}
use Rattle.std.specs.List.{count_by}
use Rattle.lnet_subscriptions.specs.Rolls.{same_kind}
use Rattle.lnet_subscriptions.proofs.roll.Subscriptions.shelf_len.Given as goal

-- how many of the views before this one are of the kind
abbrev pub invariant-loop-i : goal.invariant-loop-i
invariant-loop-i g l = l.count ≡ count_by (same_kind l.kind) (take l.i (map (λ b. (goal.View-dyn g (b.vtable, b.value)).kind_of b.value) l.self.shelf.items))
