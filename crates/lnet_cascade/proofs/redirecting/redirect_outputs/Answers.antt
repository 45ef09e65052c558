use Rattle.std.proofs.Common.{◌≡◌, ◌<◌, sym, subst, ◌∙◌, arith}
use Rattle.lnet_model.specs.Networks.{NetworkValue}
use Rattle.lnet_hashed.specs.declared.notes.Notes.{Notes}
use Rattle.lnet_model.specs.Fanouts.{references}
use Rattle.lnet_cascade.specs.Marks.{MarkedMore}
use Rattle.lnet_cascade.specs.Noting.{IsUnread, NotesFollow}
use Rattle.lnet_cascade.proofs.NoteLemmas.{notes-outputs}
use Rattle.lnet_cascade.proofs.RedirectedAll.{outputs-same}
use Rattle.lnet_cascade.proofs.redirecting.redirect_outputs.Goals as goal

pub note-requires : goal.note-requires
note-requires c = c.requires.room.fresh c.args.redirection.to.node.0 c.requires.live

pub note-requires-2 : goal.note-requires-2
note-requires-2 c = c.requires.room.lost c.args.redirection.from.0 c.requires.live_from

pub returns-then-refs-eq0-clause-network : goal.returns-then-refs-eq0-clause-network
returns-then-refs-eq0-clause-network c = sym (outputs-same c.args.store.now.network c.args.redirection.from.0 c.args.redirection.to (sym c.refs.ensures ∙ c.if-refs-eq0.true))

pub returns-clause-noted : goal.returns-clause-noted
returns-clause-noted c =
    let C : NetworkValue = c.args.store.now.network in
    let is = c.redirect_each_output.ensures.network in
    let refs = c.refs.ensures in
    let some = c.if-refs-eq0.false in
    let read : 0 < references C c.args.redirection.from.0 = omega arith in
    let old : Notes = c.args.notes.now in
    let new : Notes = record { fresh = c.note.new.set; lost = c.note-2.new.set } in
    subst (λ (D : NetworkValue). NotesFollow C old D new) (sym is)
    (notes-outputs C c.args.redirection.from.0 c.args.redirection.to read old new c.note.ensures
    (subst (λ (D : NetworkValue). MarkedMore (λ m. (m ≡ c.args.redirection.from.0) × IsUnread D new.fresh m) old.lost new.lost) is c.note-2.ensures))
