use Rattle.std.proofs.Common.{arith}
use Rattle.lnet_hashed.proofs.KeptViews.{told_twice}
use Rattle.lnet_hashed.proofs.Reached.{trimmed-twice, trimmed-swept}
use Rattle.lnet_hashed.proofs.sweeping.sweep.Goals as goal

pub passes-preserved : goal.passes-preserved
passes-preserved g c = record {
  trimmed = trimmed-twice c.args.hashed.now.store.network c.passes.hashed.store.network c.pass.new.hashed.store.network c.passes.invariant.trimmed c.pass.ensures.trimmed;
  room = c.pass.ensures.room;
  same = omega arith;
  told = told_twice c.passes.invariant.told c.pass.ensures.told;
}

pub returns-clause-network : goal.returns-clause-network
returns-clause-network g c =
    trimmed-swept c.args.hashed.now.store.network c.pass.new.hashed.store.network
    (trimmed-twice c.args.hashed.now.store.network c.passes.hashed.store.network c.pass.new.hashed.store.network c.passes.invariant.trimmed c.pass.ensures.trimmed)
    c.live_count-live.ensures.stored (c.pass.ensures.none c.passes-test.false)
