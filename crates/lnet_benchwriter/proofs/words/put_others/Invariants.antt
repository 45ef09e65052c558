use Rattle.std.proofs.Common.{◌≡◌, ◌++◌, take, string_bytes, map, codes}
use Rattle.std.specs.List.{flat_map}
use Rattle.lnet_benchwriter.specs.Nodes.{use_name}
use Rattle.lnet_nodes.specs.Kept.{label_in}
use Rattle.lnet_benchwriter.proofs.words.put_others.Given as goal

abbrev pub invariant-loop-operand : goal.invariant-loop-operand
invariant-loop-operand l = string_bytes l.out ≡ string_bytes l.initial.out ++ flat_map (λ y. codes ", " ++ y) (map (use_name (label_in l.labels)) (take l.operand-index l.operands))
