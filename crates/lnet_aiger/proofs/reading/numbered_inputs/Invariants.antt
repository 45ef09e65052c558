use Rattle.std.proofs.Common.{◌≡◌}
use Rattle.lnet_aiger.specs.LineRules.{numbered_inputs}
use Rattle.lnet_aiger.proofs.reading.numbered_inputs.Given as goal

abbrev pub invariant-loop-place : goal.invariant-loop-place
invariant-loop-place l = l.items.items ≡ numbered_inputs l.place
