use Rattle.std.proofs.Common.{take}
use Rattle.lnet_model.specs.Along.{In, nodes_read}
use Rattle.lnet_cascade.proofs.redirecting.is_read.Given as goal

abbrev pub invariant-loop-signal : goal.invariant-loop-signal
invariant-loop-signal l = In l.node.0 (nodes_read (take l.signal-index l.signals)) → ⊥
