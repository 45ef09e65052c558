use Rattle.std.proofs.Common.{Some, ◌<◌, false, length, sym, ap, subst, ◌∙◌, arith, length-set, ℕ, refl}
use Rattle.std.specs.Prelude.{slice_set}
use Rattle.lnet_gates.specs.Gates.{GateValue}
use Rattle.lnet_gates.specs.Plans.{Takes}
use Rattle.lnet_model.specs.Networks.{IsGate, entry_at, gate_at}
use Rattle.lnet_model.specs.Along.{In, Reaches, nodes_read}
use Rattle.lnet_model.specs.Changes.{AreLive, GateAt, with_entry}
use Rattle.lnet_model.specs.Dags.{AreBelow}
use Rattle.lnet_model.proofs.Changes.{with_entry-here, with_entry-apart}
use Rattle.lnet_hashed.specs.Indexed.{stands_for}
use Rattle.lnet_hashed.proofs.Indexing.{dirty-stands, same-gates}
use Rattle.lnet_substitution.proofs.OneReplaced.{gate-live}
use Rattle.lnet_cascade.specs.Marks.{OnlyGates}
use Rattle.lnet_cascade.specs.Cascading.{GoesOn, left}
use Rattle.lnet_cascade.proofs.RedirectedGates.{one-gate, below-set}
use Rattle.lnet_cascade.proofs.Holders.{absent-of}
use Rattle.lnet_cascade.proofs.Marking.{inside, marked-clear, left-marks}
use Rattle.lnet_cascade.proofs.DirtySteps.{settled-native, settled-live, settled-free, settled-goes_on, settled-gates}
use Rattle.lnet_cascade.proofs.NoteSteps.{can-note, still-noting}
use Rattle.lnet_cascade.proofs.cascading.settle.Goals as goal

pub set_gate-old-requires-clause-room : goal.set_gate-old-requires-clause-room
set_gate-old-requires-clause-room g c = can-note c.args.hashed.now.store.network c.args.hashed.now.notes c.args.hashed.now.room c.requires.midway.below c.requires.midway.noting

pub set_gate-old-requires-clause-arity : goal.set_gate-old-requires-clause-arity
set_gate-old-requires-clause-arity g c =
    let f = c.requires.form in
    subst (λ (h : GateValue). Takes h.op (length h.fanins)) (sym c.gate_of-gate.ensures) (settled-native g.G.Gates.KIND c.args.hashed.now.store.network c.live_count-live.ensures.stored c.args.hashed.now.keys.dirty c.requires.begun c.args.n.0 c.requires.dirty f.0 f.1 c.args.key c.args.phase f.2).takes

pub set_gate-old-requires-clause-live : goal.set_gate-old-requires-clause-live
set_gate-old-requires-clause-live g c =
    let f = c.requires.form in
    subst (λ (h : GateValue). AreLive c.args.hashed.now.store.network (nodes_read h.fanins)) (sym c.gate_of-gate.ensures) (settled-live g.G.Gates.KIND c.args.hashed.now.store.network c.live_count-live.ensures.stored c.args.hashed.now.keys.dirty c.requires.begun c.args.n.0 c.requires.dirty f.0 f.1 c.args.key c.args.phase f.2)

pub set_gate-old-requires-clause-free : goal.set_gate-old-requires-clause-free
set_gate-old-requires-clause-free g c =
    let f = c.requires.form in
    subst (λ (h : GateValue). (m : ℕ) → In m (nodes_read h.fanins) → Reaches c.args.hashed.now.store.network m c.args.n.0 → ⊥) (sym c.gate_of-gate.ensures) (settled-free g.G.Gates.KIND c.args.hashed.now.store.network c.live_count-live.ensures.stored c.args.hashed.now.keys.dirty c.requires.begun c.args.n.0 c.requires.dirty f.0 f.1 c.args.key c.args.phase f.2)

pub enter-requires-clause-marked : goal.enter-requires-clause-marked
enter-requires-clause-marked g c = inside c.args.hashed.now.keys.dirty c.args.n.0 c.requires.dirty

pub enter-requires-clause-placed : goal.enter-requires-clause-placed
enter-requires-clause-placed g c =
    let f = c.requires.form in
    let low = c.requires.midway.below c.args.n.0 (gate-live c.args.hashed.now.store.network c.args.n.0 f.0 f.1) in
    let long = c.requires.midway.indexed.table_long in
    omega arith

pub enter-requires-clause-free : goal.enter-requires-clause-free
enter-requires-clause-free g c =
    let o = gate_at c.args.hashed.now.store.network c.args.n.0 in
    c.requires.midway.indexed.stands c.args.n.0 ∙ ap (stands_for o) c.requires.dirty ∙ dirty-stands o

pub enter-requires-clause-absent : goal.enter-requires-clause-absent
enter-requires-clause-absent g c = absent-of c.args.hashed.now.store.network c.args.hashed.now.keys c.args.hashed.now.room c.requires.midway.indexed c.args.key c.requires.unused

pub tell-requires-clause-event : goal.tell-requires-clause-event
tell-requires-clause-event g c =
    let here = ap (λ N. entry_at N c.args.n.0) c.set_gate-old.ensures.network ∙ with_entry-here c.args.hashed.now.store.network c.args.n.0 (IsGate c.gate_of-gate.result) in (
      (c.gate_of-gate.result, here),
      λ same. c.requires.differs (subst (GateAt c.args.hashed.now.store.network c.args.n.0) (one-gate (sym same ∙ here) ∙ c.gate_of-gate.ensures) c.set_gate-old.ensures.old),
    )

pub tell-requires-clause-below : goal.tell-requires-clause-below
tell-requires-clause-below g c = subst (λ N. AreBelow N c.args.hashed.now.room) (sym c.set_gate-old.ensures.network) (below-set c.args.hashed.now.store.network c.args.n.0 c.args.hashed.now.room c.gate_of-gate.result c.set_gate-old.result c.set_gate-old.ensures.old c.requires.midway.below)

pub returns-clause-goes_on : goal.returns-clause-goes_on
returns-clause-goes_on g c =
    let f = c.requires.form in
    let is = c.set_gate-old.ensures.network ∙ ap (λ (h : GateValue). with_entry c.args.hashed.now.store.network c.args.n.0 (IsGate h)) c.gate_of-gate.ensures in
    subst (GoesOn g.G.Gates.KIND c.args.hashed.now.store.network c.args.hashed.now.keys.dirty c.set_gate-old.new.store.network) (sym c.enter.ensures.dirty)
    (settled-goes_on g.G.Gates.KIND c.args.hashed.now.store.network c.live_count-live.ensures.stored c.args.hashed.now.keys.dirty c.requires.begun c.args.n.0 c.requires.dirty f.0 f.1 c.args.key c.args.phase f.2 c.set_gate-old.new.store.network is c.requires.unused)

pub returns-clause-gates : goal.returns-clause-gates
returns-clause-gates g c =
    let f = c.requires.form in
    let is = c.set_gate-old.ensures.network ∙ ap (λ (h : GateValue). with_entry c.args.hashed.now.store.network c.args.n.0 (IsGate h)) c.gate_of-gate.ensures in
    subst (OnlyGates c.set_gate-old.new.store.network) (sym c.enter.ensures.dirty) (settled-gates g.G.Gates.KIND c.args.hashed.now.store.network c.live_count-live.ensures.stored c.args.hashed.now.keys.dirty c.requires.begun c.args.n.0 c.requires.dirty f.0 f.1 c.args.key c.args.phase f.2 c.set_gate-old.new.store.network is c.requires.gates)

pub returns-clause-less : goal.returns-clause-less
returns-clause-less g c =
    subst (λ bs. left c.set_gate-old.new.store.network bs < left c.args.hashed.now.store.network c.args.hashed.now.keys.dirty) (sym c.enter.ensures.dirty)
    (left-marks c.args.hashed.now.store.network c.set_gate-old.new.store.network c.args.hashed.now.keys.dirty (slice_set c.args.hashed.now.keys.dirty c.args.n.0 false) c.set_gate-old.ensures.kept.count (length-set c.args.hashed.now.keys.dirty c.args.n.0 false) (marked-clear c.args.hashed.now.keys.dirty c.args.n.0 c.requires.dirty))

pub returns-clause-long : goal.returns-clause-long
returns-clause-long g c = ap length c.enter.ensures.dirty ∙ length-set c.args.hashed.now.keys.dirty c.args.n.0 false

pub returns-clause-midway : goal.returns-clause-midway
returns-clause-midway g c =
    let stored = c.requires.midway.stored in
    let count = c.set_gate-old.ensures.kept.count in
    let spare = c.set_gate-old.ensures.kept.spare in
    record {
      midway = record {
        below = subst (λ N. AreBelow N c.args.hashed.now.room) (sym c.set_gate-old.ensures.network) (below-set c.args.hashed.now.store.network c.args.n.0 c.args.hashed.now.room c.gate_of-gate.result c.set_gate-old.result c.set_gate-old.ensures.old c.requires.midway.below);
        stored = omega arith;
        limit = c.requires.midway.limit;
        noting = still-noting c.args.hashed.now.room c.set_gate-old.ensures.noted c.requires.midway.noting;
        indexed =
            c.enter.ensures.indexed c.args.hashed.now.store.network c.set_gate-old.new.store.network c.args.hashed.now.room c.requires.midway.indexed
            (same-gates c.args.hashed.now.store.network c.set_gate-old.new.store.network c.args.n.0 (λ m ne. ap (λ N. entry_at N m) c.set_gate-old.ensures.network ∙ with_entry-apart c.args.hashed.now.store.network c.args.n.0 (IsGate c.gate_of-gate.result) m ne))
            (ap (λ N. entry_at N c.args.n.0) c.set_gate-old.ensures.network ∙ with_entry-here c.args.hashed.now.store.network c.args.n.0 (IsGate c.gate_of-gate.result) ∙ ap (λ (h : GateValue). Some (IsGate h)) c.gate_of-gate.ensures);
      };
      room = refl;
      noted = c.set_gate-old.ensures.noted;
    }
