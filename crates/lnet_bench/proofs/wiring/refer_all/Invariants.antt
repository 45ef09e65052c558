use Rattle.std.proofs.Common.{◌≡◌, ◌+◌, ◌≤◌, length}
use Rattle.std.specs.List.{filter_map}
use Rattle.std.specs.Option.{option_copied}
use Rattle.lnet_words.specs.Cutting.{is_byte, left, parts_behind}
use Rattle.lnet_bench.specs.Statements.{names_in, name_of}
use Rattle.lnet_bench.specs.Wiring.{refer_all}
use Rattle.lnet_bench.proofs.Referring.{onto}
use Rattle.lnet_bench.proofs.wiring.refer_all.Given as goal

abbrev pub invariant-loop-rest : goal.invariant-loop-rest
invariant-loop-rest l = record {
  value : onto l.refs.items (refer_all l.driven l.wires (filter_map name_of (parts_behind (is_byte 44) (option_copied l.rest)))) ≡ refer_all l.driven l.initial.wires (names_in l.args);
  few : length l.wires + left (option_copied l.rest) ≤ length l.initial.wires + length l.args + 1;
}

abbrev pub decreases-loop-rest : goal.decreases-loop-rest
decreases-loop-rest l = left (option_copied l.rest)
