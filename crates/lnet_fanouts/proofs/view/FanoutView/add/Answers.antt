use Rattle.std.proofs.Common.{length-set, set, true}
use Rattle.lnet_fanouts.proofs.InStep.{IsKeeping, in-step, dead-empty, silent-on}
use Rattle.lnet_fanouts.proofs.Events.{known, low-added, absent-added, kept-added, slots-same}
use Rattle.lnet_fanouts.proofs.view.FanoutView.add.Goals as goal

pub link-requires-clause-known : goal.link-requires-clause-known
link-requires-clause-known c = known c.args.look.now.network c.args.self.now.pool c.args.self.now.live.items c.args.n.0 c.requires.told.stored c.requires.told.room c.args.self.now.slots

pub link-requires-clause-within : goal.link-requires-clause-within
link-requires-clause-within c = low-added _ _ _ _ c.args.n c.requires.told

pub link-requires-clause-absent : goal.link-requires-clause-absent
link-requires-clause-absent c = absent-added _ _ _ _ c.args.n c.requires.told

pub invariant_of-self : goal.invariant_of-self
invariant_of-self c =
    let keeps : IsKeeping c.link.new.pool (set c.args.self.now.live.items c.args.n.0 true) c.args.self.now.attached c.args.look.now.network =
    kept-added _ _ _ _ c.args.n c.requires.told c.link.new.pool c.link.ensures.named in
    record {
      slots = slots-same c.args.self.now.pool c.link.new.pool c.args.self.now.live.items _ c.args.self.now.slots c.link.ensures.room (length-set c.args.self.now.live.items c.args.n.0 true);
      silent = silent-on c.args.self.now.attached keeps.on;
      empty = dead-empty c.link.new.pool _ c.args.self.now.attached c.args.look.now.network c.requires.told.stored.dag keeps.listed keeps.living;
    }

pub returns-clause-in_step : goal.returns-clause-in_step
returns-clause-in_step c =
    let keeps : IsKeeping c.link.new.pool (set c.args.self.now.live.items c.args.n.0 true) c.args.self.now.attached c.args.look.now.network =
    kept-added _ _ _ _ c.args.n c.requires.told c.link.new.pool c.link.ensures.named in
    in-step _ _ c.args.self.now.attached c.args.look.now.network c.requires.told.stored.dag c.link.ensures.ascending keeps.listed keeps.living keeps.on
