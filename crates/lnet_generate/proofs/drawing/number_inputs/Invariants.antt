use Rattle.std.proofs.Common.{◌≡◌, ◌-◌, ◌+◌, ◌++◌}
use Rattle.lnet_generate.specs.Drawing.{inputs_from}
use Rattle.lnet_generate.proofs.drawing.number_inputs.Given as goal

abbrev pub invariant-loop-place : goal.invariant-loop-place
invariant-loop-place l = l.ports.items ++ inputs_from (1 + l.place) (l.inputs - l.place) ≡ inputs_from 1 l.inputs
