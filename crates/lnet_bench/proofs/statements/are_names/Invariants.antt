use Rattle.std.proofs.Common.{◌≡◌}
use Rattle.std.specs.Prelude.{is_some}
use Rattle.std.specs.List.{list_all}
use Rattle.std.specs.Option.{option_copied}
use Rattle.lnet_words.specs.Cutting.{is_byte, left, parts_behind}
use Rattle.lnet_bench.specs.Statements.{are_names, name_of}
use Rattle.lnet_bench.proofs.statements.are_names.Given as goal

abbrev pub invariant-loop-rest : goal.invariant-loop-rest
invariant-loop-rest l = list_all (λ part. is_some (name_of part)) (parts_behind (is_byte 44) (option_copied l.rest)) ≡ are_names l.args

abbrev pub decreases-loop-rest : goal.decreases-loop-rest
decreases-loop-rest l = left (option_copied l.rest)
