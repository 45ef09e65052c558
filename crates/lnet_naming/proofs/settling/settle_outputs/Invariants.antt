use Rattle.std.proofs.Common.{◌≡◌, drop}
use Rattle.lnet_naming.specs.Settling.{settle_all}
use Rattle.lnet_edge.specs.Shown.{output_names}
use Rattle.lnet_naming.proofs.Steps.{onto}
use Rattle.lnet_naming.proofs.settling.settle_outputs.Given as goal

abbrev pub invariant-loop-place : goal.invariant-loop-place
invariant-loop-place l = onto l.names.items (settle_all 111 l.place l.kept (output_names (drop l.place l.outputs))) ≡ settle_all 111 0 l.initial.kept (output_names l.outputs)
