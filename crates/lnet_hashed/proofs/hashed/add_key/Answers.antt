use Rattle.std.proofs.Common.{Some, false, slice_index_or, sym, ap, subst, ◌∙◌, arith}
use Rattle.lnet_model.specs.Dags.{IsDag}
use Rattle.lnet_gates.specs.Gates.{GateValue}
use Rattle.lnet_model.specs.Networks.{IsGate, entry_at, gate_in}
use Rattle.lnet_model.proofs.Changes.{with_entry-here, with_entry-apart}
use Rattle.lnet_hashed.specs.Strashed.{least_free, found}
use Rattle.lnet_hashed.specs.Indexed.{stands_for}
use Rattle.lnet_hashed.proofs.Indexing.{clear-set, not-found-absent, same-gates}
use Rattle.lnet_hashed.proofs.Adding.{least-is, added-live, added-below, added-count}
use Rattle.lnet_hashed.proofs.hashed.add_key.Goals as goal

pub tell-requires-clause-before : goal.tell-requires-clause-before
tell-requires-clause-before g c = subst IsDag (sym c.in-Ok.ensures.was) c.live_count-live.ensures.stored.dag

pub tell-requires-clause-event : goal.tell-requires-clause-event
tell-requires-clause-event g c = added-live c.make_room.new.hashed.store.network c.add.new.self.network c.in-Ok.n.0 _ c.in-Ok.ensures.network

pub tell-requires-clause-below : goal.tell-requires-clause-below
tell-requires-clause-below g c = added-below c.make_room.new.hashed.store.network c.add.new.self.network c.in-Ok.n.0 c.make_room.new.hashed.room _ c.in-Ok.ensures.network c.in-Ok.ensures.number c.in_ok-make_room.ensures.one_more c.make_room.ensures.room.below

pub enter-requires-clause-marked : goal.enter-requires-clause-marked
enter-requires-clause-marked g c =
    let low = added-below c.make_room.new.hashed.store.network c.add.new.self.network c.in-Ok.n.0 c.make_room.new.hashed.room _ c.in-Ok.ensures.network c.in-Ok.ensures.number c.in_ok-make_room.ensures.one_more c.make_room.ensures.room.below c.in-Ok.n.0
    (added-live c.make_room.new.hashed.store.network c.add.new.self.network c.in-Ok.n.0 _ c.in-Ok.ensures.network) in
    let long = c.make_room.ensures.room.indexed.dirty_long in
    omega arith

pub enter-requires-clause-placed : goal.enter-requires-clause-placed
enter-requires-clause-placed g c =
    let low = added-below c.make_room.new.hashed.store.network c.add.new.self.network c.in-Ok.n.0 c.make_room.new.hashed.room _ c.in-Ok.ensures.network c.in-Ok.ensures.number c.in_ok-make_room.ensures.one_more c.make_room.ensures.room.below c.in-Ok.n.0
    (added-live c.make_room.new.hashed.store.network c.add.new.self.network c.in-Ok.n.0 _ c.in-Ok.ensures.network) in
    let long = c.make_room.ensures.room.indexed.table_long in
    omega arith

pub enter-requires-clause-free : goal.enter-requires-clause-free
enter-requires-clause-free g c =
    c.make_room.ensures.room.indexed.stands c.in-Ok.n.0 ∙ ap (λ o. stands_for (gate_in o) (slice_index_or c.make_room.new.hashed.keys.dirty c.in-Ok.n.0 false)) c.in-Ok.ensures.number.free

pub enter-requires-clause-absent : goal.enter-requires-clause-absent
enter-requires-clause-absent g c =
    not-found-absent c.make_room.new.hashed.store.network c.make_room.new.hashed.keys c.make_room.new.hashed.room c.make_room.ensures.room.indexed c.make_room.ensures.room.clean c.args.key (ap (λ N. found N c.args.key) c.make_room.ensures.network ∙ c.requires.absent)

pub returns-in-Ok-clause-node : goal.returns-in-Ok-clause-node
returns-in-Ok-clause-node g c =
    least-is c.make_room.new.hashed.store.network c.in-Ok.n.0 c.in-Ok.ensures.number ∙ ap least_free c.make_room.ensures.network

pub returns-in-Ok-clause-room : goal.returns-in-Ok-clause-room
returns-in-Ok-clause-room g c =
    let stored = c.make_room.ensures.room.stored in
    let spare = c.in-Ok.ensures.spare in
    let count = added-count c.make_room.new.hashed.store.network c.add.new.self.network c.in-Ok.n.0 _ c.in-Ok.ensures.network c.in-Ok.ensures.number in
    record {
      below = added-below c.make_room.new.hashed.store.network c.add.new.self.network c.in-Ok.n.0 c.make_room.new.hashed.room _ c.in-Ok.ensures.network c.in-Ok.ensures.number c.in_ok-make_room.ensures.one_more c.make_room.ensures.room.below;
      stored = omega arith;
      limit = c.make_room.ensures.room.limit;
      noting = c.make_room.ensures.room.noting;
      blank = c.make_room.ensures.room.blank;
      indexed = c.enter.ensures.indexed c.make_room.new.hashed.store.network c.add.new.self.network c.make_room.new.hashed.room c.make_room.ensures.room.indexed
          (same-gates c.make_room.new.hashed.store.network c.add.new.self.network c.in-Ok.n.0 (λ m ne. ap (λ N. entry_at N m) c.in-Ok.ensures.network ∙ with_entry-apart c.make_room.new.hashed.store.network c.in-Ok.n.0 _ m ne))
          (ap (λ N. entry_at N c.in-Ok.n.0) c.in-Ok.ensures.network ∙ with_entry-here c.make_room.new.hashed.store.network c.in-Ok.n.0 _ ∙ ap (λ (h : GateValue). Some (IsGate h)) c.gate_of-gate.ensures);
      clean = λ m. ap (λ bs. slice_index_or bs m false) c.enter.ensures.dirty ∙ clear-set c.make_room.new.hashed.keys.dirty c.in-Ok.n.0 c.make_room.ensures.room.clean m;
    }

pub returns-in-Ok-clause-live : goal.returns-in-Ok-clause-live
returns-in-Ok-clause-live g c = added-live c.make_room.new.hashed.store.network c.add.new.self.network c.in-Ok.n.0 _ c.in-Ok.ensures.network
