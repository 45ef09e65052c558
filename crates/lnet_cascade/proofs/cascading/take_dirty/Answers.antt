use Rattle.std.proofs.Common.{◌<◌, sym, subst, ◌∙◌, false, length-set, refl}
use Rattle.std.specs.Prelude.{slice_set}
use Rattle.lnet_gates.specs.NormalLaws.{keyed_gate}
use Rattle.lnet_model.specs.Networks.{entry_at}
use Rattle.lnet_store.proofs.KeptLemmas.{gate-at}
use Rattle.lnet_substitution.specs.Cascades.{CanMerge}
use Rattle.lnet_substitution.proofs.Merging.{not-both}
use Rattle.lnet_cascade.specs.Marks.{OnlyGates}
use Rattle.lnet_cascade.specs.Cascading.{GoesOn, left}
use Rattle.lnet_cascade.proofs.Marking.{marked-clear, left-marks}
use Rattle.lnet_cascade.proofs.Holders.{holder-of, nothing-stands, unused-of}
use Rattle.lnet_cascade.proofs.DirtySteps.{set-same, dirty-native, signal-live, signal-apart, settled-gates, settled-goes_on, holder-merges}
use Rattle.lnet_cascade.proofs.NoteSteps.{follow-same}
use Rattle.lnet_cascade.proofs.cascading.take_dirty.Goals as goal

pub normal-requires : goal.normal-requires
normal-requires g c =
    let at = gate-at (entry_at c.args.hashed.now.store.network c.args.n.0) c.in-Some.gate.now (sym c.in-Some.ensures) in
    dirty-native g.G.Gates.KIND c.args.hashed.now.store.network c.live_count-live.ensures.stored c.args.hashed.now.keys.dirty c.requires.begun c.args.n.0 c.requires.dirty c.in-Some.gate.now at

pub merge-requires-clause-live : goal.merge-requires-clause-live
merge-requires-clause-live g c =
    let at = gate-at (entry_at c.args.hashed.now.store.network c.args.n.0) c.in-Some.gate.now (sym c.in-Some.ensures) in
    signal-live g.G.Gates.KIND c.args.hashed.now.store.network c.live_count-live.ensures.stored c.args.hashed.now.keys.dirty c.requires.begun c.args.n.0 c.requires.dirty c.in-Some.gate.now at c.in-Is.to (sym c.normal.ensures ∙ c.in-Is.is)

pub merge-requires-clause-apart : goal.merge-requires-clause-apart
merge-requires-clause-apart g c =
    let at = gate-at (entry_at c.args.hashed.now.store.network c.args.n.0) c.in-Some.gate.now (sym c.in-Some.ensures) in
    signal-apart g.G.Gates.KIND c.args.hashed.now.store.network c.live_count-live.ensures.stored c.args.hashed.now.keys.dirty c.requires.begun c.args.n.0 c.requires.dirty c.in-Some.gate.now at c.in-Is.to (sym c.normal.ensures ∙ c.in-Is.is)

pub merge-requires-in-Some-find-clause-merges : goal.merge-requires-in-Some-find-clause-merges
merge-requires-in-Some-find-clause-merges g c =
    let at = gate-at (entry_at c.args.hashed.now.store.network c.args.n.0) c.in-Some.gate.now (sym c.in-Some.ensures) in (
      c.in-Some.gate.now,
      at,
      subst (CanMerge g.G.Gates.KIND c.args.hashed.now.store.network c.in-Some.gate.now) (sym c.flipped-to.ensures)
          (holder-merges g.G.Gates.KIND c.args.hashed.now.store.network c.live_count-live.ensures.stored c.args.hashed.now.keys.dirty c.requires.begun c.args.n.0 c.requires.dirty c.in-Some.gate.now at c.in-Gate.key c.in-Gate.phase (sym c.normal.ensures ∙ c.in-Gate.is) c.in-Some-find.found (holder-of c.args.hashed.now.store.network c.args.hashed.now.keys c.args.hashed.now.room c.requires.midway.indexed c.in-Gate.key c.in-Some-find.found ((c.find.ensures.stands c.in-Some-find.found).0 c.in-Some-find.is))),
    )

pub enter-requires-clause-absent : goal.enter-requires-clause-absent
enter-requires-clause-absent g c = nothing-stands c.args.hashed.now.keys.table c.in-Gate.key c.find.result c.find.ensures.stands c.in-None-find.is

pub settle-requires-clause-unused : goal.settle-requires-clause-unused
settle-requires-clause-unused g c = (unused-of c.args.hashed.now.store.network c.args.hashed.now.keys c.args.hashed.now.room c.requires.midway.indexed c.in-Gate.key (nothing-stands c.args.hashed.now.keys.table c.in-Gate.key c.find.result c.find.ensures.stands c.in-None-find.is))

pub settle-requires-clause-differs : goal.settle-requires-clause-differs
settle-requires-clause-differs g c = λ at. not-both c.stands_at.result c.if-stands_at.false (c.stands_at.ensures.1 at)

pub returns-in-None-find-clause-goes_on : goal.returns-in-None-find-clause-goes_on
returns-in-None-find-clause-goes_on g c =
    let N = c.args.hashed.now.store.network in
    let at = gate-at (entry_at N c.args.n.0) c.in-Some.gate.now (sym c.in-Some.ensures) in
    let same = sym (set-same N c.args.n.0 (keyed_gate c.in-Gate.key c.in-Gate.phase) (c.stands_at.ensures.0 c.if-stands_at.true)) in
    subst (GoesOn g.G.Gates.KIND N c.args.hashed.now.keys.dirty N) (sym c.enter.ensures.dirty)
    (settled-goes_on g.G.Gates.KIND c.args.hashed.now.store.network c.live_count-live.ensures.stored c.args.hashed.now.keys.dirty c.requires.begun c.args.n.0 c.requires.dirty c.in-Some.gate.now at c.in-Gate.key c.in-Gate.phase (sym c.normal.ensures ∙ c.in-Gate.is) N same (unused-of c.args.hashed.now.store.network c.args.hashed.now.keys c.args.hashed.now.room c.requires.midway.indexed c.in-Gate.key (nothing-stands c.args.hashed.now.keys.table c.in-Gate.key c.find.result c.find.ensures.stands c.in-None-find.is)))

pub returns-in-None-find-clause-gates : goal.returns-in-None-find-clause-gates
returns-in-None-find-clause-gates g c =
    let N = c.args.hashed.now.store.network in
    let at = gate-at (entry_at N c.args.n.0) c.in-Some.gate.now (sym c.in-Some.ensures) in
    let same = sym (set-same N c.args.n.0 (keyed_gate c.in-Gate.key c.in-Gate.phase) (c.stands_at.ensures.0 c.if-stands_at.true)) in
    subst (OnlyGates N) (sym c.enter.ensures.dirty) (settled-gates g.G.Gates.KIND c.args.hashed.now.store.network c.live_count-live.ensures.stored c.args.hashed.now.keys.dirty c.requires.begun c.args.n.0 c.requires.dirty c.in-Some.gate.now at c.in-Gate.key c.in-Gate.phase (sym c.normal.ensures ∙ c.in-Gate.is) N same c.requires.gates)

pub returns-in-None-find-clause-less : goal.returns-in-None-find-clause-less
returns-in-None-find-clause-less g c =
    let N = c.args.hashed.now.store.network in
    subst (λ bs. left N bs < left N c.args.hashed.now.keys.dirty) (sym c.enter.ensures.dirty)
    (left-marks N N c.args.hashed.now.keys.dirty (slice_set c.args.hashed.now.keys.dirty c.args.n.0 false) refl (length-set c.args.hashed.now.keys.dirty c.args.n.0 false) (marked-clear c.args.hashed.now.keys.dirty c.args.n.0 c.requires.dirty))

pub returns-in-None-find-clause-midway : goal.returns-in-None-find-clause-midway
returns-in-None-find-clause-midway g c = record {
  midway = record {
    below = c.requires.midway.below;
    stored = c.requires.midway.stored;
    limit = c.requires.midway.limit;
    noting = c.requires.midway.noting;
    indexed = c.enter.ensures.indexed c.args.hashed.now.store.network c.args.hashed.now.store.network c.args.hashed.now.room c.requires.midway.indexed (λ m ne. refl) (c.stands_at.ensures.0 c.if-stands_at.true);
  };
  room = refl;
  noted = follow-same c.args.hashed.now.store.network c.args.hashed.now.notes;
}
