use Rattle.std.proofs.Common.{◌≡◌, get_or, Option, None, Some, refl, ap, ◌∙◌}
use Rattle.std.specs.Option.{option_map}
use Rattle.std.specs.Borrow.{Bor}
use Rattle.lnet_store.specs.Held.{Numbered, entry_of, entry_in}
use Rattle.lnet_store.specs.declared.slots.Slot.{Slot}
use Rattle.lnet_store.proofs.SlotLemmas.{read-held}
use Rattle.lnet_store.proofs.slots.NodeSlots.at.Goals as goal

entry-read : (r : Option (Bor Slot)) → option_map (λ s. entry_of s.now) r ≡ entry_in (option_map (λ s. s.now) r)
entry-read None = refl
entry-read (Some s) = refl

pub returns : goal.returns
returns c =
    entry-read c.slot_at.result ∙ ap entry_in c.slot_at.ensures
    ∙ ap (λ xs. entry_in (get_or xs c.args.n.0 None)) c.deref.ensures.value
    ∙ read-held c.self.inside.slots.items c.args.self.now.nodes c.args.n.0 (ap (λ (h : Numbered). h.nodes) c.self.view_is)
