use Rattle.std.proofs.Common.{◌≡◌, ◌++◌, take, string_bytes, map, codes}
use Rattle.std.specs.List.{flat_map}
use Rattle.lnet_edge.specs.declared.circuit.WireRef.{WireRef}
use Rattle.lnet_nodes.specs.Nodes.{node_name}
use Rattle.lnet_nodes.specs.Kept.{label_in}
use Rattle.lnet_benchwriter.proofs.tables.put_others.Given as goal

abbrev pub invariant-loop-operand : goal.invariant-loop-operand
invariant-loop-operand l = string_bytes l.out ≡ string_bytes l.initial.out ++ flat_map (λ y. codes ", " ++ y) (map (λ (v : WireRef). node_name (label_in l.labels) v.wire.0) (take l.operand-index l.operands))
