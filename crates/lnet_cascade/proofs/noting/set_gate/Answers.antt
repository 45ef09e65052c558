use Rattle.std.proofs.Common.{List, sym, ap, subst, ◌∙◌}
use Rattle.lnet_gates.specs.declared.signal.Signal.{Signal}
use Rattle.lnet_gates.specs.Gates.{GateValue}
use Rattle.lnet_model.specs.Networks.{NetworkValue}
use Rattle.lnet_hashed.specs.declared.notes.Notes.{Notes}
use Rattle.lnet_model.specs.Along.{In, nodes_read}
use Rattle.lnet_cascade.specs.Marks.{MarkedMore}
use Rattle.lnet_cascade.specs.Noting.{IsUnread, NotesFollow}
use Rattle.lnet_cascade.proofs.NoteLemmas.{fanin-live, notes-set}
use Rattle.lnet_cascade.proofs.noting.set_gate.Goals as goal

pub note_all-requires : goal.note_all-requires
note_all-requires c m i =
    let same = c.as_slice.ensures.value ∙ ap (λ (h : GateValue). h.fanins) c.gate.view_is in
    c.requires.room.fresh m (c.requires.live m (subst (λ (ss : List Signal). In m (nodes_read ss)) same i))

pub note_all-requires-2 : goal.note_all-requires-2
note_all-requires-2 c m i =
    c.requires.room.lost m (fanin-live c.args.store.now.network c.args.n.0 c.set_gate-old.result c.live_count-live.ensures.stored c.set_gate-old.ensures.old m
    (subst (λ (ss : List Signal). In m (nodes_read ss)) (c.as_slice-2.ensures.value ∙ ap (λ (h : GateValue). h.fanins) c.old.view_is) i))

pub returns-clause-noted : goal.returns-clause-noted
returns-clause-noted c =
    let C : NetworkValue = c.args.store.now.network in
    let g = c.set_gate-old.result in
    let old : Notes = c.args.notes.now in
    let new : Notes = record { fresh = c.note_all.new.set; lost = c.note_all-2.new.set } in
    let gained = c.as_slice.ensures.value ∙ ap (λ (h : GateValue). h.fanins) c.gate.view_is in
    let left = c.as_slice-2.ensures.value ∙ ap (λ (h : GateValue). h.fanins) c.old.view_is in
    let M = c.set_gate-old.new.self.network in
    subst (λ (D : NetworkValue). NotesFollow C old D new) (sym c.set_gate-old.ensures.network)
    (notes-set C c.args.n.0 g c.set_gate-old.ensures.old c.args.gate old new
    (subst (λ (ss : List Signal). MarkedMore (λ m. In m (nodes_read ss) × IsUnread C old.lost m) old.fresh new.fresh) gained c.note_all.ensures)
    (subst (λ (D : NetworkValue). MarkedMore (λ m. In m (nodes_read g.fanins) × IsUnread D new.fresh m) old.lost new.lost) c.set_gate-old.ensures.network
    (subst (λ (ss : List Signal). MarkedMore (λ m. In m (nodes_read ss) × IsUnread M new.fresh m) old.lost new.lost) left c.note_all-2.ensures)))
