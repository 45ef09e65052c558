use Rattle.std.proofs.Common.{IsSome, false, refl, slice_index_or, ap, subst, ◌∙◌, sym, arith}
use Rattle.lnet_model.specs.Networks.{entry_at, gate_in, gate_at}
use Rattle.lnet_model.specs.Dags.{AreBelow}
use Rattle.lnet_model.proofs.Changes.{without-here, without-apart}
use Rattle.lnet_model.proofs.Removals.{left-live}
use Rattle.lnet_hashed.proofs.Indexing.{clear-set, same-gates}
use Rattle.lnet_hashed.proofs.hashed.remove.Goals as goal

pub tell-requires-clause-event : goal.tell-requires-clause-event
tell-requires-clause-event g c = ap (λ N. entry_at N c.args.n.0) c.remove-gate.ensures.network ∙ without-here c.args.hashed.now.store.network c.args.n.0

pub tell-requires-clause-below : goal.tell-requires-clause-below
tell-requires-clause-below g c =
    subst (λ N. AreBelow N c.args.hashed.now.room) (sym c.remove-gate.ensures.network) (λ m live. c.requires.room.below m (left-live c.args.hashed.now.store.network c.args.n.0 m live))

pub forget-requires : goal.forget-requires
forget-requires g c =
    let low = c.requires.room.below c.args.n.0 (subst IsSome (sym c.requires.gate.1) refl) in
    let long = c.requires.room.indexed.dirty_long in
    omega arith

pub returns-clause-room : goal.returns-clause-room
returns-clause-room g c =
    let stored = c.requires.room.stored in
    let count = c.remove-gate.ensures.count in
    let spare = c.remove-gate.ensures.spare in
    record {
      below = subst (λ N. AreBelow N c.args.hashed.now.room) (sym c.remove-gate.ensures.network) (λ m live. c.requires.room.below m (left-live c.args.hashed.now.store.network c.args.n.0 m live));
      stored = omega arith;
      limit = c.requires.room.limit;
      noting = c.requires.room.noting;
      blank = c.requires.room.blank;
      indexed = c.forget.ensures.indexed c.args.hashed.now.store.network c.remove-gate.new.self.network c.args.hashed.now.room c.requires.room.indexed
          (same-gates c.args.hashed.now.store.network c.remove-gate.new.self.network c.args.n.0 (λ m ne. ap (λ N. entry_at N m) c.remove-gate.ensures.network ∙ without-apart c.args.hashed.now.store.network c.args.n.0 m ne))
          (ap (λ N. gate_at N c.args.n.0) c.remove-gate.ensures.network ∙ ap gate_in (without-here c.args.hashed.now.store.network c.args.n.0));
      clean = λ m. ap (λ bs. slice_index_or bs m false) c.forget.ensures.dirty ∙ clear-set c.args.hashed.now.keys.dirty c.args.n.0 c.requires.room.clean m;
    }
