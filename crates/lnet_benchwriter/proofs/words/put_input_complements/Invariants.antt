use Rattle.std.proofs.Common.{◌≡◌, ◌++◌, string_bytes}
use Rattle.std.specs.List.{flat_map}
use Rattle.lnet_nodes.specs.Kept.{label_in}
use Rattle.lnet_benchwriter.specs.Texts.{complement_line}
use Rattle.lnet_benchwriter.proofs.words.put_input_complements.Given as goal

abbrev pub invariant-loop-wire : goal.invariant-loop-wire
invariant-loop-wire l = string_bytes l.out ++ flat_map (complement_line (label_in l.labels)) l.wire-iterator ≡ string_bytes l.initial.out ++ flat_map (complement_line (label_in l.labels)) l.initial.wire-iterator
