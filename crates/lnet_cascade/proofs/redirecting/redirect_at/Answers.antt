use Rattle.std.proofs.Common.{ℕ, [], sym, ap, subst, ◌∙◌, arith, refl}
use Rattle.lnet_gates.specs.Gates.{GateValue}
use Rattle.lnet_model.specs.Networks.{IsGate, entry_at, live_count}
use Rattle.lnet_model.specs.Along.{nodes_read, Reaches, In}
use Rattle.lnet_model.specs.Changes.{AreLive, with_entry}
use Rattle.lnet_model.specs.Dags.{AreBelow}
use Rattle.lnet_model.proofs.Changes.{with_entry-here, with_entry-apart}
use Rattle.lnet_store.proofs.KeptLemmas.{gate-at}
use Rattle.lnet_hashed.proofs.Indexing.{same-gates}
use Rattle.lnet_substitution.proofs.OneReplaced.{fanin-gate, gate-live}
use Rattle.lnet_substitution.proofs.Merging.{not-both}
use Rattle.lnet_cascade.specs.Redirections.{RedirectedAt}
use Rattle.lnet_cascade.proofs.RedirectedGates.{one-gate, below-set, redirected-differs, redirected-live, redirected-free, redirected-at, redirected-same}
use Rattle.lnet_cascade.proofs.NoteSteps.{can-note, still-noting}
use Rattle.lnet_cascade.proofs.redirecting.redirect_at.Goals as goal

pub set_gate-old-requires-clause-room : goal.set_gate-old-requires-clause-room
set_gate-old-requires-clause-room g c = can-note c.args.hashed.now.store.network c.args.hashed.now.notes c.args.hashed.now.room c.requires.midway.below c.requires.midway.noting

pub set_gate-old-requires-clause-live : goal.set_gate-old-requires-clause-live
set_gate-old-requires-clause-live g c =
    let N = c.args.hashed.now.store.network in
    let at = gate-at (entry_at N c.args.n) c.in-Some.gate.now (sym c.in-Some.ensures) in
    subst (λ (h : GateValue). AreLive N (nodes_read h.fanins)) (sym c.of_gate-new.ensures)
    (redirected-live N c.args.n c.args.redirection.from.0 c.args.redirection.to c.in-Some.gate.now at (c.concerns.ensures.0 c.if-concerns.true) c.live_count-live.ensures.stored c.requires.live c.requires.free)

pub set_gate-old-requires-clause-free : goal.set_gate-old-requires-clause-free
set_gate-old-requires-clause-free g c =
    let N = c.args.hashed.now.store.network in
    let at = gate-at (entry_at N c.args.n) c.in-Some.gate.now (sym c.in-Some.ensures) in
    subst (λ (h : GateValue). (m : ℕ) → In m (nodes_read h.fanins) → Reaches N m c.args.n → ⊥) (sym c.of_gate-new.ensures)
    (redirected-free N c.args.n c.args.redirection.from.0 c.args.redirection.to c.in-Some.gate.now at (c.concerns.ensures.0 c.if-concerns.true) c.live_count-live.ensures.stored c.requires.live c.requires.free)

pub soil-requires : goal.soil-requires
soil-requires g c =
    let at = gate-at (entry_at c.args.hashed.now.store.network c.args.n) c.in-Some.gate.now (sym c.in-Some.ensures) in
    let low = c.requires.midway.below c.args.n (gate-live c.args.hashed.now.store.network c.args.n c.in-Some.gate.now at) in
    let long = c.requires.midway.indexed.dirty_long in
    omega arith

pub tell-requires-clause-event : goal.tell-requires-clause-event
tell-requires-clause-event g c =
    let N = c.args.hashed.now.store.network in
    let at = gate-at (entry_at N c.args.n) c.in-Some.gate.now (sym c.in-Some.ensures) in
    let here = ap (λ M. entry_at M c.args.n) c.set_gate-old.ensures.network ∙ with_entry-here N c.args.n (IsGate c.of_gate-new.result) in (
      (c.of_gate-new.result, here),
      λ same. redirected-differs c.args.redirection.from.0 c.args.redirection.to c.in-Some.gate.now (c.concerns.ensures.0 c.if-concerns.true) (λ e. c.requires.free ([], c.requires.live, e))
          (sym c.of_gate-new.ensures ∙ one-gate (sym here ∙ same ∙ sym c.set_gate-old.ensures.old ∙ at)),
    )

pub tell-requires-clause-below : goal.tell-requires-clause-below
tell-requires-clause-below g c = subst (λ N. AreBelow N c.args.hashed.now.room) (sym c.set_gate-old.ensures.network) (below-set c.args.hashed.now.store.network c.args.n c.args.hashed.now.room c.of_gate-new.result c.set_gate-old.result c.set_gate-old.ensures.old c.requires.midway.below)

pub returns-then-concerns-clause-redirected : goal.returns-then-concerns-clause-redirected
returns-then-concerns-clause-redirected g c =
    let N = c.args.hashed.now.store.network in
    let at = gate-at (entry_at N c.args.n) c.in-Some.gate.now (sym c.in-Some.ensures) in
    let is = c.set_gate-old.ensures.network ∙ ap (λ (h : GateValue). with_entry N c.args.n (IsGate h)) c.of_gate-new.ensures in
    subst (RedirectedAt N c.args.redirection.from.0 c.args.redirection.to c.args.n) (sym is)
    (redirected-at N c.args.n c.args.redirection.from.0 c.args.redirection.to c.in-Some.gate.now at (c.concerns.ensures.0 c.if-concerns.true) c.live_count-live.ensures.stored c.requires.live c.requires.free (ap live_count (sym is) ∙ c.set_gate-old.ensures.kept.count))

pub returns-then-concerns-clause-midway : goal.returns-then-concerns-clause-midway
returns-then-concerns-clause-midway g c =
    let stored = c.requires.midway.stored in
    let count = c.set_gate-old.ensures.kept.count in
    let spare = c.set_gate-old.ensures.kept.spare in
    record {
      midway = record {
        below = subst (λ N. AreBelow N c.args.hashed.now.room) (sym c.set_gate-old.ensures.network) (below-set c.args.hashed.now.store.network c.args.n c.args.hashed.now.room c.of_gate-new.result c.set_gate-old.result c.set_gate-old.ensures.old c.requires.midway.below);
        stored = omega arith;
        limit = c.requires.midway.limit;
        noting = still-noting c.args.hashed.now.room c.set_gate-old.ensures.noted c.requires.midway.noting;
        indexed =
            c.soil.ensures.indexed c.args.hashed.now.store.network c.set_gate-old.new.store.network c.args.hashed.now.room c.requires.midway.indexed
            (same-gates c.args.hashed.now.store.network c.set_gate-old.new.store.network c.args.n (λ m ne. ap (λ N. entry_at N m) c.set_gate-old.ensures.network ∙ with_entry-apart c.args.hashed.now.store.network c.args.n (IsGate c.of_gate-new.result) m ne));
      };
      room = refl;
      noted = c.set_gate-old.ensures.noted;
    }

pub returns-else-concerns-clause-redirected : goal.returns-else-concerns-clause-redirected
returns-else-concerns-clause-redirected g c =
    let N = c.args.hashed.now.store.network in
    let at = gate-at (entry_at N c.args.n) c.in-Some.gate.now (sym c.in-Some.ensures) in
    redirected-same N c.args.n c.args.redirection.from.0 c.args.redirection.to (λ j. not-both c.concerns.result c.if-concerns.false (c.concerns.ensures.1 (fanin-gate N c.args.n c.args.redirection.from.0 c.in-Some.gate.now at j))) c.requires.free
