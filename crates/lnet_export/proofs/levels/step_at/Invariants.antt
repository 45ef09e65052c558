use Rattle.std.proofs.Common.{◌≡◌, map, take}
use Rattle.lnet_model.specs.Along.{nodes_read}
use Rattle.lnet_model.specs.Levels.{greatest, level}
use Rattle.lnet_export.proofs.levels.step_at.Given as goal

abbrev pub invariant-loop-fanin : goal.invariant-loop-fanin
invariant-loop-fanin g l = l.greatest ≡ greatest (map (level l.net.core.network) (nodes_read (take l.fanin-index l.fanin-items)))
