use Rattle.std.proofs.Common.{◌≡◌, take}
use Rattle.lnet_hashed.proofs.making.gate_on.Given as goal

abbrev pub invariant-loop-operand : goal.invariant-loop-operand
invariant-loop-operand l = l.fanins.items ≡ take l.operand-index l.operands
