use Rattle.std.proofs.Common.{◌≡◌, length-set, set, false, refl, ap, ◌∙◌, arith}
use Rattle.lnet_gates.specs.Gates.{GateValue}
use Rattle.lnet_fanouts.proofs.InStep.{IsKeeping, in-step, dead-empty, silent-on}
use Rattle.lnet_fanouts.proofs.Events.{low-old, linked-old, kept-deleted, slots-same}
use Rattle.lnet_fanouts.proofs.view.FanoutView.delete.Goals as goal

pub take_all-requires-clause-linked : goal.take_all-requires-clause-linked
take_all-requires-clause-linked c =
    let fanins : c.deref.result.now ≡ c.args.old.now.fanins = c.deref.ensures.0 ∙ ap (λ (g : GateValue). g.fanins) c.old.view_is in
    linked-old _ _ _ _ c.args.n c.args.old.now c.deref.result.now fanins _ c.requires.told refl

pub index_mut-requires : goal.index_mut-requires
index_mut-requires c =
    let fanins : c.deref.result.now ≡ c.args.old.now.fanins = c.deref.ensures.0 ∙ ap (λ (g : GateValue). g.fanins) c.old.view_is in
    let low = low-old _ _ _ _ c.args.n c.args.old.now c.deref.result.now fanins _ c.requires.told refl in
    omega (arith, c.args.self.now.live.ok)

pub invariant_of-self : goal.invariant_of-self
invariant_of-self c =
    let fanins : c.deref.result.now ≡ c.args.old.now.fanins = c.deref.ensures.0 ∙ ap (λ (g : GateValue). g.fanins) c.old.view_is in
    let keeps : IsKeeping c.take_all.new.pool (set c.args.self.now.live.items c.args.n.0 false) c.args.self.now.attached c.args.look.now.network =
    kept-deleted _ _ _ _ c.args.n c.args.old.now c.deref.result.now fanins _ c.requires.told refl c.take_all.new.pool c.take_all.ensures.named c.take_all.ensures.gone c.requires.told.event in
    record {
      slots = slots-same c.args.self.now.pool c.take_all.new.pool c.args.self.now.live.items _ c.args.self.now.slots c.take_all.ensures.room
          (length-set c.args.self.now.live.items c.args.n.0 false);
      silent = silent-on c.args.self.now.attached keeps.on;
      empty = dead-empty c.take_all.new.pool _ c.args.self.now.attached c.args.look.now.network c.requires.told.stored.dag keeps.listed keeps.living;
    }

pub returns-clause-in_step : goal.returns-clause-in_step
returns-clause-in_step c =
    let fanins : c.deref.result.now ≡ c.args.old.now.fanins = c.deref.ensures.0 ∙ ap (λ (g : GateValue). g.fanins) c.old.view_is in
    let keeps : IsKeeping c.take_all.new.pool (set c.args.self.now.live.items c.args.n.0 false) c.args.self.now.attached c.args.look.now.network =
    kept-deleted _ _ _ _ c.args.n c.args.old.now c.deref.result.now fanins _ c.requires.told refl c.take_all.new.pool c.take_all.ensures.named c.take_all.ensures.gone c.requires.told.event in
    in-step _ _ c.args.self.now.attached c.args.look.now.network c.requires.told.stored.dag c.take_all.ensures.ascending keeps.listed keeps.living keeps.on
