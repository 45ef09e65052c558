use Rattle.std.proofs.Common.{◌≡◌, ◌++◌, take, string_bytes}
use Rattle.std.specs.List.{flat_map}
use Rattle.lnet_edge.specs.CircuitLists.{equation_views}
use Rattle.lnet_nodes.specs.Kept.{label_in}
use Rattle.lnet_benchwriter.specs.Kept.{turned_in}
use Rattle.lnet_benchwriter.specs.Texts.{word_lines}
use Rattle.lnet_benchwriter.proofs.words.put_gates.Given as goal

abbrev pub invariant-loop-equation : goal.invariant-loop-equation
invariant-loop-equation l = string_bytes l.out ≡ string_bytes l.initial.out ++ flat_map (word_lines (label_in l.labels) (turned_in l.turned)) (equation_views (take l.equation-index l.equations))
