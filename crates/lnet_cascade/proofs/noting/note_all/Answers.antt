use Rattle.std.proofs.Common.{◌≡◌, ℕ, suc, false, get_or, refl, subst, take, inl, inr, arith, ◌+◌, sym}
use Rattle.lnet_gates.specs.declared.signal.Signal.{Signal}
use Rattle.lnet_model.specs.Along.{In, nodes_read}
use Rattle.lnet_cascade.specs.Noting.{IsUnread}
use Rattle.lnet_cascade.proofs.NoteLemmas.{marks-twice}
use Rattle.lnet_cascade.proofs.ReadSignals.{read-at, read-before, read-last, read-more}
use Rattle.lnet_cascade.proofs.noting.note_all.Goals as goal

pub note-requires : goal.note-requires
note-requires c =
    let none : Signal = record { node = record { 0 = 0 }; complement = false } in
    let n = (get_or c.args.signals.now c.loop-signal.signal-index none).node.0 in
    let low = c.requires n (read-at n c.args.signals.now c.loop-signal.signal-index none c.loop-signal-test.true refl) in
    let len = c.loop-signal.invariant.len in
    omega arith

pub loop-signal-preserved : goal.loop-signal-preserved
loop-signal-preserved c =
    let none : Signal = record { node = record { 0 = 0 }; complement = false } in
    let ss = c.args.signals.now in
    let i : ℕ = c.loop-signal.signal-index in
    let next : suc i ≡ i + 1 = omega arith in
    let U = IsUnread c.args.store.now.network c.args.other.now in
    marks-twice (λ m. In m (nodes_read (take i ss)) × U m) (λ m. (m ≡ (get_or ss i none).node.0) × U m) (λ m. In m (nodes_read (take (i + 1) ss)) × U m)
    c.args.set.now c.loop-signal.set c.note.new.set c.loop-signal.invariant c.note.ensures
    (λ m r. elim (read-more m ss i none c.loop-signal-test.true r.0) [ inl k ↦ inl (k, r.1) | inr e ↦ inr (sym e, r.1) ])
    (λ m p. (subst (λ k. In m (nodes_read (take k ss))) next (read-before m ss i p.0), p.1))
    (λ m q. (subst (λ k. In m (nodes_read (take k ss))) next (read-last m ss i none c.loop-signal-test.true q.0), q.1))
