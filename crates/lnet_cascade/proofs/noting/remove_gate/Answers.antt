use Rattle.std.proofs.Common.{List, refl, sym, ap, subst, ◌∙◌}
use Rattle.lnet_gates.specs.declared.signal.Signal.{Signal}
use Rattle.lnet_gates.specs.Gates.{GateValue}
use Rattle.lnet_model.specs.Networks.{NetworkValue}
use Rattle.lnet_hashed.specs.declared.notes.Notes.{Notes}
use Rattle.lnet_model.specs.Along.{In, nodes_read}
use Rattle.lnet_cascade.specs.Marks.{MarkedMore}
use Rattle.lnet_cascade.specs.Noting.{IsUnread, NotesFollow}
use Rattle.lnet_cascade.proofs.NoteLemmas.{fanin-live, notes-removed}
use Rattle.lnet_cascade.proofs.noting.remove_gate.Goals as goal

pub note_all-requires : goal.note_all-requires
note_all-requires c m i =
    c.requires.room.lost m (fanin-live c.args.store.now.network c.args.n.0 c.remove-gate.result c.live_count-live.ensures.stored c.remove-gate.ensures.old m
    (subst (λ (ss : List Signal). In m (nodes_read ss)) (c.as_slice.ensures.value ∙ ap (λ (h : GateValue). h.fanins) c.gate.view_is) i))

pub returns-clause-noted : goal.returns-clause-noted
returns-clause-noted c =
    let C : NetworkValue = c.args.store.now.network in
    let g = c.remove-gate.result in
    let old : Notes = c.args.notes.now in
    let new : Notes = record { fresh = old.fresh; lost = c.note_all.new.set } in
    let left = c.as_slice.ensures.value ∙ ap (λ (h : GateValue). h.fanins) c.gate.view_is in
    let M = c.remove-gate.new.self.network in
    subst (λ (D : NetworkValue). NotesFollow C old D new) (sym c.remove-gate.ensures.network)
    (notes-removed C c.args.n.0 g c.remove-gate.ensures.old old new refl
    (subst (λ (D : NetworkValue). MarkedMore (λ m. In m (nodes_read g.fanins) × IsUnread D new.fresh m) old.lost new.lost) c.remove-gate.ensures.network
    (subst (λ (ss : List Signal). MarkedMore (λ m. In m (nodes_read ss) × IsUnread M new.fresh m) old.lost new.lost) left c.note_all.ensures)))
