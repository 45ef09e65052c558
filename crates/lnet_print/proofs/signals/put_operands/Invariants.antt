use Rattle.std.proofs.Common.{◌≡◌, ◌++◌, take, string_bytes}
use Rattle.lnet_print.specs.Printed.{operands_text}
use Rattle.lnet_print.proofs.signals.put_operands.Given as goal

abbrev pub invariant-loop-signal : goal.invariant-loop-signal
invariant-loop-signal l = string_bytes l.out ≡ string_bytes l.initial.out ++ operands_text (take l.signal-index l.signals)
