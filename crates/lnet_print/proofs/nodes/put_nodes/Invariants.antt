use Rattle.std.proofs.Common.{◌≡◌, ◌++◌, string_bytes}
use Rattle.lnet_print.specs.Printed.{node_lines}
use Rattle.lnet_print.proofs.Numbered.{lines_from}
use Rattle.lnet_print.proofs.nodes.put_nodes.Given as goal

-- the lines of the nodes below n are there
abbrev pub invariant-loop-n : goal.invariant-loop-n
invariant-loop-n g l = string_bytes l.out ++ lines_from l.net.core.network l.n ≡ string_bytes l.initial.out ++ node_lines l.net.core.network
