use Rattle.std.proofs.Common.{◌≡◌, map, take}
use Rattle.lnet_export.specs.Exported.{ref_in}
use Rattle.lnet_export.proofs.equations.operands_of.Given as goal

abbrev pub invariant-loop-fanin : goal.invariant-loop-fanin
invariant-loop-fanin g l = l.operands.items ≡ map (ref_in l.net.core.network) (take l.fanin-index l.fanins)
