use Rattle.std.proofs.Common.{true, refl}
use Rattle.lnet_fanouts.proofs.InStep.{in-step, dead-empty, silent-on}
use Rattle.lnet_fanouts.proofs.view.FanoutViewView.attach.Goals as goal

pub invariant_of-self : goal.invariant_of-self
invariant_of-self c = record {
  slots = c.fill.ensures.slots;
  silent = silent-on true refl;
  empty = dead-empty c.fill.new.pool _ true c.args.store.now.network c.numbers.ensures.stored.dag c.fill.ensures.listed c.fill.ensures.live;
}

pub returns-clause-in_step : goal.returns-clause-in_step
returns-clause-in_step c = in-step c.fill.new.pool _ true c.args.store.now.network c.numbers.ensures.stored.dag c.fill.ensures.ascending c.fill.ensures.listed c.fill.ensures.live refl
