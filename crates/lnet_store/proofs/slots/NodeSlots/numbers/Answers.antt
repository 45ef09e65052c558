use Rattle.std.proofs.Common.{◌≤◌, subst, ap}
use Rattle.lnet_store.specs.Held.{Numbered}
use Rattle.lnet_store.proofs.CountedSlots.{numbers-fit}
use Rattle.lnet_store.proofs.slots.NodeSlots.numbers.Goals as goal

pub returns-clause-room : goal.returns-clause-room
returns-clause-room c = subst (λ z. c.self.inside.numbers ≤ z) (ap (λ (h : Numbered). h.room) c.self.view_is) (numbers-fit c.self.inside.slots.items c.self.inside.live c.self.inside.numbers c.self.inside.free c.self.invariant)
