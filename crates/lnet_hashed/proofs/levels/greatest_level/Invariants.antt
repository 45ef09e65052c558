use Rattle.std.proofs.Common.{◌≡◌}
use Rattle.lnet_model.specs.Levels.{level, depth as depth_of}
use Rattle.lnet_hashed.proofs.Greatest.{greatest_from}
use Rattle.lnet_hashed.proofs.levels.greatest_level.Given as goal

abbrev pub invariant-loop-k : goal.invariant-loop-k
invariant-loop-k l = greatest_from (level l.store.network) l.greatest l.k l.store.network.outputs ≡ depth_of l.store.network
