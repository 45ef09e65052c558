use Rattle.std.proofs.Common.{take}
use Rattle.std.specs.List.{AllByRecursion}
use Rattle.lnet_kept.specs.Kept.{IsKeptInput}
use Rattle.lnet_kept.proofs.keeping.keep_inputs.Given as goal

abbrev pub invariant-loop-port : goal.invariant-loop-port
invariant-loop-port l = AllByRecursion IsKeptInput (take l.port-index l.ports)
