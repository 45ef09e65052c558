use Rattle.std.proofs.Common.{◌≡◌, refl, ap, ◌∙◌, arith}
use Rattle.lnet_gates.specs.Gates.{GateValue}
use Rattle.lnet_fanouts.proofs.InStep.{IsKeeping, in-step, dead-empty, silent-on}
use Rattle.lnet_fanouts.proofs.Events.{known, low-modified, linked-old, absent-modified, kept-modified, slots-same, room-after}
use Rattle.lnet_fanouts.proofs.view.FanoutView.modify.Goals as goal

pub take_all-requires-clause-linked : goal.take_all-requires-clause-linked
take_all-requires-clause-linked c =
    let fanins : c.deref.result.now ≡ c.args.old.now.fanins = c.deref.ensures.0 ∙ ap (λ (g : GateValue). g.fanins) c.old.view_is in
    linked-old _ _ _ _ c.args.n c.args.old.now c.deref.result.now fanins _ c.requires.told refl

pub link-requires-clause-known : goal.link-requires-clause-known
link-requires-clause-known c =
    let slots = slots-same c.args.self.now.pool c.take_all.new.pool c.args.self.now.live.items c.args.self.now.live.items c.args.self.now.slots c.take_all.ensures.room refl in
    known c.args.look.now.network c.take_all.new.pool c.args.self.now.live.items c.args.n.0 c.requires.told.stored c.requires.told.room slots

pub link-requires-clause-within : goal.link-requires-clause-within
link-requires-clause-within c =
    let low = low-modified _ _ _ _ _ c.args.n c.requires.told c.requires.told.event.0 in
    let lists = c.take_all.ensures.room.lists in
    omega arith

pub link-requires-clause-absent : goal.link-requires-clause-absent
link-requires-clause-absent c =
    let fanins : c.deref.result.now ≡ c.args.old.now.fanins = c.deref.ensures.0 ∙ ap (λ (g : GateValue). g.fanins) c.old.view_is in
    absent-modified _ _ _ _ c.args.n c.args.old.now c.deref.result.now fanins _ c.requires.told refl c.take_all.new.pool c.take_all.ensures.named c.take_all.ensures.gone

pub invariant_of-self : goal.invariant_of-self
invariant_of-self c =
    let fanins : c.deref.result.now ≡ c.args.old.now.fanins = c.deref.ensures.0 ∙ ap (λ (g : GateValue). g.fanins) c.old.view_is in
    let keeps : IsKeeping c.link.new.pool c.args.self.now.live.items c.args.self.now.attached c.args.look.now.network =
    kept-modified _ _ _ _ c.args.n c.args.old.now c.deref.result.now fanins _ c.requires.told refl c.take_all.new.pool c.take_all.ensures.named c.take_all.ensures.gone
    c.requires.told.event.0 c.link.new.pool c.link.ensures.named in
    record {
      slots = slots-same c.args.self.now.pool c.link.new.pool c.args.self.now.live.items c.args.self.now.live.items c.args.self.now.slots
          (room-after c.args.self.now.pool c.take_all.new.pool c.link.new.pool c.take_all.ensures.room c.link.ensures.room) refl;
      silent = silent-on c.args.self.now.attached keeps.on;
      empty = dead-empty c.link.new.pool _ c.args.self.now.attached c.args.look.now.network c.requires.told.stored.dag keeps.listed keeps.living;
    }

pub returns-clause-in_step : goal.returns-clause-in_step
returns-clause-in_step c =
    let fanins : c.deref.result.now ≡ c.args.old.now.fanins = c.deref.ensures.0 ∙ ap (λ (g : GateValue). g.fanins) c.old.view_is in
    let keeps : IsKeeping c.link.new.pool c.args.self.now.live.items c.args.self.now.attached c.args.look.now.network =
    kept-modified _ _ _ _ c.args.n c.args.old.now c.deref.result.now fanins _ c.requires.told refl c.take_all.new.pool c.take_all.ensures.named c.take_all.ensures.gone
    c.requires.told.event.0 c.link.new.pool c.link.ensures.named in
    in-step _ _ c.args.self.now.attached c.args.look.now.network c.requires.told.stored.dag c.link.ensures.ascending keeps.listed keeps.living keeps.on
