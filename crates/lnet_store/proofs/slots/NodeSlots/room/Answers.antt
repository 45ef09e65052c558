use Rattle.std.proofs.Common.{◌<◌, IsSome, subst, ap, sym}
use Rattle.std.specs.FinMap.{get}
use Rattle.lnet_store.specs.Held.{Numbered}
use Rattle.lnet_store.proofs.SlotLemmas.{held-inside}
use Rattle.lnet_store.proofs.slots.NodeSlots.room.Goals as goal

pub returns-clause-within : goal.returns-clause-within
returns-clause-within c n live =
    subst (λ z. n < z) (ap (λ (h : Numbered). h.room) c.self.view_is)
    (held-inside c.self.inside.slots.items n (subst (λ m. IsSome (get m n)) (sym (ap (λ (h : Numbered). h.nodes) c.self.view_is)) live))
