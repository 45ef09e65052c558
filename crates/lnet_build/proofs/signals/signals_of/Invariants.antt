use Rattle.std.proofs.Common.{◌≡◌, map, take}
use Rattle.lnet_build.specs.Signals.{read_in}
use Rattle.lnet_build.proofs.signals.signals_of.Given as goal

abbrev pub invariant-loop-wire : goal.invariant-loop-wire
invariant-loop-wire l = l.found.items ≡ map (read_in l.signals) (take l.wire-index l.wires)
