use Rattle.std.proofs.Common.{sym, ap, subst, ◌∙◌, arith}
use Rattle.lnet_model.specs.Dags.{IsDag, AreBelow}
use Rattle.lnet_hashed.specs.Strashed.{least_free}
use Rattle.lnet_hashed.specs.Watches.{AreFitIn}
use Rattle.lnet_hashed.proofs.Adding.{least-is}
use Rattle.lnet_hashed.proofs.Indexing.{indexed-same}
use Rattle.lnet_hashed.proofs.SameNodes.{dag-same, fit-same, below-same, input-live, input-below, input-count, input-gates}
use Rattle.lnet_hashed.proofs.hashed.add_input.Goals as goal

pub tell-requires-clause-before : goal.tell-requires-clause-before
tell-requires-clause-before g c = subst IsDag (sym c.in-Ok.ensures.was) (dag-same c.make_room.new.hashed.store.network c.add_input.new.self.network.inputs c.live_count-live.ensures.stored.dag)

pub tell-requires-clause-event : goal.tell-requires-clause-event
tell-requires-clause-event g c = input-live c.make_room.new.hashed.store.network c.add_input.new.self.network c.in-Ok.n.0 c.in-Ok.ensures.network

pub tell-requires-clause-below : goal.tell-requires-clause-below
tell-requires-clause-below g c = input-below c.make_room.new.hashed.store.network c.add_input.new.self.network c.in-Ok.n.0 c.make_room.new.hashed.room c.in-Ok.ensures.network c.in-Ok.ensures.number c.in_ok-make_room.ensures.one_more c.make_room.ensures.room.below

pub tell-requires-clause-below_before : goal.tell-requires-clause-below_before
tell-requires-clause-below_before g c =
    subst (λ N. AreBelow N c.make_room.new.hashed.room) (sym c.in-Ok.ensures.was) (below-same c.make_room.new.hashed.store.network c.add_input.new.self.network.inputs c.make_room.new.hashed.room c.make_room.ensures.room.below)

pub tell-requires-clause-fit : goal.tell-requires-clause-fit
tell-requires-clause-fit g c =
    subst (λ N. AreFitIn (λ b. goal.View-dyn g (b.vtable, b.value)) N c.make_room.new.hashed.room c.make_room.new.watch) (sym c.in-Ok.ensures.was)
    (fit-same _ _ _ c.make_room.new.hashed.store.network c.add_input.new.self.network.inputs c.make_room.new.hashed.room c.make_room.new.watch c.make_room.ensures.told.fit)

pub returns-in-Ok-clause-node : goal.returns-in-Ok-clause-node
returns-in-Ok-clause-node g c =
    least-is c.make_room.new.hashed.store.network c.in-Ok.n.0 c.in-Ok.ensures.number ∙ ap least_free c.make_room.ensures.network

pub returns-in-Ok-clause-room : goal.returns-in-Ok-clause-room
returns-in-Ok-clause-room g c =
    let stored = c.make_room.ensures.room.stored in
    let spare = c.in-Ok.ensures.spare in
    let count = input-count c.make_room.new.hashed.store.network c.add_input.new.self.network c.in-Ok.n.0 c.in-Ok.ensures.network c.in-Ok.ensures.number in
    record {
      below = input-below c.make_room.new.hashed.store.network c.add_input.new.self.network c.in-Ok.n.0 c.make_room.new.hashed.room c.in-Ok.ensures.network c.in-Ok.ensures.number c.in_ok-make_room.ensures.one_more c.make_room.ensures.room.below;
      stored = omega arith;
      limit = c.make_room.ensures.room.limit;
      noting = c.make_room.ensures.room.noting;
      blank = c.make_room.ensures.room.blank;
      indexed = indexed-same c.make_room.new.hashed.store.network c.add_input.new.self.network c.make_room.new.hashed.keys c.make_room.new.hashed.room (input-gates c.make_room.new.hashed.store.network c.add_input.new.self.network c.in-Ok.n.0 c.in-Ok.ensures.network c.in-Ok.ensures.number.free) c.make_room.ensures.room.indexed;
      clean = c.make_room.ensures.room.clean;
    }
