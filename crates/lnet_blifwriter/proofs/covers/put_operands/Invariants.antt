use Rattle.std.proofs.Common.{◌≡◌, ◌++◌, take, string_bytes}
use Rattle.std.specs.List.{flat_map}
use Rattle.lnet_nodes.specs.Kept.{label_in}
use Rattle.lnet_blifwriter.specs.Texts.{spaced, operand_names}
use Rattle.lnet_blifwriter.proofs.covers.put_operands.Given as goal

abbrev pub invariant-loop-operand : goal.invariant-loop-operand
invariant-loop-operand l = string_bytes l.out ≡ string_bytes l.initial.out ++ flat_map spaced (operand_names (label_in l.labels) (take l.operand-index l.operands))
