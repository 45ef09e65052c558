use Rattle.std.proofs.Common.{◌≡◌, take}
use Rattle.lnet_gates.specs.Wiring.{named}
use Rattle.lnet_gates.proofs.tabling.named.Given as goal

abbrev pub invariant-loop-operand : goal.invariant-loop-operand
invariant-loop-operand l = l.signals.items ≡ named (take l.operand-index l.operands)
