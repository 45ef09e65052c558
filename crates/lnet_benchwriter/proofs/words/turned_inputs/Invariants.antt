use Rattle.std.proofs.Common.{◌≡◌, drop, fold}
use Rattle.std.specs.List.{filter}
use Rattle.std.specs.Ordering.{nat_cmp}
use Rattle.std.specs.BTreeSet.{insert_key}
use Rattle.lnet_edge.specs.Wires.{input_wires}
use Rattle.lnet_benchwriter.specs.Kept.{turned_in}
use Rattle.lnet_benchwriter.specs.Texts.{ascending}
use Rattle.lnet_benchwriter.proofs.words.turned_inputs.Given as goal

abbrev pub invariant-loop-input : goal.invariant-loop-input
invariant-loop-input l = fold (insert_key nat_cmp) l.wires.keys (filter (turned_in l.turned) (input_wires (drop l.input-index l.inputs))) ≡ ascending (filter (turned_in l.turned) (input_wires l.inputs))
