use Rattle.std.proofs.Common.{ap, subst, ◌∙◌, sym, arith, refl}
use Rattle.lnet_model.specs.Networks.{entry_at, gate_in, gate_at}
use Rattle.lnet_model.specs.Dags.{AreBelow}
use Rattle.lnet_model.proofs.Changes.{without-here, without-apart}
use Rattle.lnet_model.proofs.Removals.{left-live}
use Rattle.lnet_hashed.proofs.Indexing.{same-gates}
use Rattle.lnet_substitution.proofs.OneReplaced.{gate-live}
use Rattle.lnet_cascade.proofs.NoteSteps.{can-note, still-noting}
use Rattle.lnet_cascade.proofs.redirecting.remove.Goals as goal

pub remove_gate-gate-requires-clause-room : goal.remove_gate-gate-requires-clause-room
remove_gate-gate-requires-clause-room g c = can-note c.args.hashed.now.store.network c.args.hashed.now.notes c.args.hashed.now.room c.requires.midway.below c.requires.midway.noting

pub tell-requires-clause-event : goal.tell-requires-clause-event
tell-requires-clause-event g c = ap (λ N. entry_at N c.args.n.0) c.remove_gate-gate.ensures.network ∙ without-here c.args.hashed.now.store.network c.args.n.0

pub tell-requires-clause-below : goal.tell-requires-clause-below
tell-requires-clause-below g c =
    subst (λ N. AreBelow N c.args.hashed.now.room) (sym c.remove_gate-gate.ensures.network) (λ m live. c.requires.midway.below m (left-live c.args.hashed.now.store.network c.args.n.0 m live))

pub returns-clause-midway : goal.returns-clause-midway
returns-clause-midway g c =
    let stored = c.requires.midway.stored in
    let count = c.remove_gate-gate.ensures.count in
    let spare = c.remove_gate-gate.ensures.spare in
    record {
      midway = record {
        below = subst (λ N. AreBelow N c.args.hashed.now.room) (sym c.remove_gate-gate.ensures.network)
            (λ m live. c.requires.midway.below m (left-live c.args.hashed.now.store.network c.args.n.0 m live));
        stored = omega arith;
        limit = c.requires.midway.limit;
        noting = still-noting c.args.hashed.now.room c.remove_gate-gate.ensures.noted c.requires.midway.noting;
        indexed =
            c.forget.ensures.indexed c.args.hashed.now.store.network c.remove_gate-gate.new.store.network c.args.hashed.now.room c.requires.midway.indexed
            (same-gates c.args.hashed.now.store.network c.remove_gate-gate.new.store.network c.args.n.0 (λ m ne. ap (λ N. entry_at N m) c.remove_gate-gate.ensures.network ∙ without-apart c.args.hashed.now.store.network c.args.n.0 m ne))
            (ap (λ N. gate_at N c.args.n.0) c.remove_gate-gate.ensures.network ∙ ap gate_in (without-here c.args.hashed.now.store.network c.args.n.0));
      };
      room = refl;
      noted = c.remove_gate-gate.ensures.noted;
    }

pub forget-requires : goal.forget-requires
forget-requires g c =
    let low = c.requires.midway.below c.args.n.0 (gate-live c.args.hashed.now.store.network c.args.n.0 c.requires.gate.0 c.requires.gate.1) in
    let long = c.requires.midway.indexed.dirty_long in
    omega arith
