use Rattle.std.proofs.Common.{◌≡◌, drop}
use Rattle.lnet_naming.specs.Settling.{settle_all}
use Rattle.lnet_edge.specs.Shown.{input_names}
use Rattle.lnet_naming.proofs.Steps.{onto}
use Rattle.lnet_naming.proofs.settling.settle_inputs.Given as goal

abbrev pub invariant-loop-place : goal.invariant-loop-place
invariant-loop-place l = onto l.names.items (settle_all 105 l.place l.kept (input_names (drop l.place l.inputs))) ≡ settle_all 105 0 l.initial.kept (input_names l.inputs)
