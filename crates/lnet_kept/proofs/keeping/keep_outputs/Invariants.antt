use Rattle.std.proofs.Common.{take}
use Rattle.std.specs.List.{AllByRecursion}
use Rattle.lnet_kept.specs.Kept.{IsKeptOutput}
use Rattle.lnet_kept.proofs.keeping.keep_outputs.Given as goal

abbrev pub invariant-loop-port : goal.invariant-loop-port
invariant-loop-port l = AllByRecursion IsKeptOutput (take l.port-index l.ports)
