use Rattle.std.proofs.Common.{◌<◌, refl, sym, ap, subst, ◌∙◌, length, length-set}
use Rattle.std.specs.Prelude.{slice_set, false}
use Rattle.lnet_model.specs.Changes.{IsGateAt}
use Rattle.lnet_hashed.specs.Swept.{IsUnnamed}
use Rattle.lnet_hashed.specs.declared.notes.Notes.{Notes}
use Rattle.lnet_substitution.specs.Cascades.{IsDropping}
use Rattle.lnet_cascade.specs.Cascading.{left}
use Rattle.lnet_cascade.proofs.LostGates.{drops-gate, no-gate, notes-taken}
use Rattle.lnet_cascade.proofs.NoteSteps.{follow-twice, still-noting}
use Rattle.lnet_cascade.proofs.Marking.{left-marks, left-nodes, marked-clear}
use Rattle.lnet_cascade.proofs.losing.drop_lost.Goals as goal

pub returns-then-not-is_unnamed-clause-less : goal.returns-then-not-is_unnamed-clause-less
returns-then-not-is_unnamed-clause-less g c =
    let N = c.args.hashed.now.store.network in
    let lost = c.args.hashed.now.notes.lost in
    subst (λ bs. left N bs < left N lost) (sym c.remove.ensures)
    (left-marks N N lost (slice_set lost c.args.n.0 false) refl (length-set lost c.args.n.0 false) (marked-clear lost c.args.n.0 c.requires.lost))

pub returns-clause-drops : goal.returns-clause-drops
returns-clause-drops g c N P noted S =
    let C = c.args.hashed.now.store.network in
    let unnamed : IsUnnamed C c.args.n.0 = c.is_unnamed.ensures.0 c.if-not-is_unnamed.false in
    subst (IsDropping N P) (sym c.remove-2.ensures.network) (drops-gate C c.args.hashed.now.notes c.args.n.0 unnamed.gate unnamed.free c.requires.lost N P noted S)

pub returns-clause-less : goal.returns-clause-less
returns-clause-less g c =
    left-nodes c.args.hashed.now.store.network c.remove-2.new.hashed.store.network c.args.hashed.now.notes.lost c.remove-3.new.self c.remove-2.ensures.count
    (ap length c.remove-3.ensures ∙ length-set c.remove-2.new.hashed.notes.lost c.args.n.0 false ∙ c.remove-2.ensures.midway.noted.lost_long)

pub returns-clause-midway : goal.returns-clause-midway
returns-clause-midway g c =
    let D = c.remove-2.new.hashed.store.network in
    let old : Notes = c.remove-2.new.hashed.notes in
    let new : Notes = record { fresh = old.fresh; lost = c.remove-3.new.self } in
    let after = c.remove-2.ensures.midway in
    let gone : IsGateAt D c.args.n.0 → ⊥ = λ gate. no-gate c.args.hashed.now.store.network c.args.n.0 (subst (λ M. IsGateAt M c.args.n.0) c.remove-2.ensures.network gate) in
    let taken = notes-taken D old new c.args.n.0 refl c.remove-3.ensures (λ gate _. gone gate) in
    record {
      midway = record {
        below = after.midway.below;
        stored = after.midway.stored;
        limit = after.midway.limit;
        noting = still-noting c.remove-2.new.hashed.room taken after.midway.noting;
        indexed = after.midway.indexed;
      };
      room = after.room;
      noted = follow-twice after.noted taken;
    }
