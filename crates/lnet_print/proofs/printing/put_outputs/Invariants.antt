use Rattle.std.proofs.Common.{◌≡◌, ◌++◌, string_bytes}
use Rattle.lnet_print.specs.Printed.{output_lines}
use Rattle.lnet_print.proofs.Listed.{lines_after}
use Rattle.lnet_print.proofs.printing.put_outputs.Given as goal

-- the lines of the outputs before k are there
abbrev pub invariant-loop-k : goal.invariant-loop-k
invariant-loop-k g l = string_bytes l.out ++ lines_after l.k l.net.core.network.outputs ≡ string_bytes l.initial.out ++ output_lines 0 l.net.core.network.outputs
