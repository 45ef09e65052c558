use Rattle.std.proofs.Common.{◌≡◌, ◌++◌, take, string_bytes}
use Rattle.std.specs.List.{flat_map}
use Rattle.lnet_edge.specs.CircuitLists.{equation_views}
use Rattle.lnet_nodes.specs.Kept.{label_in}
use Rattle.lnet_benchwriter.specs.Texts.{table_line}
use Rattle.lnet_benchwriter.proofs.tables.put_gates.Given as goal

abbrev pub invariant-loop-equation : goal.invariant-loop-equation
invariant-loop-equation l = string_bytes l.out ≡ string_bytes l.initial.out ++ flat_map (table_line (label_in l.labels)) (equation_views (take l.equation-index l.equations))
