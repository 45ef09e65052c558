use Rattle.std.proofs.Common.{◌≡◌, ◌++◌, ◌-◌}
use Rattle.lnet_aiger.specs.Texts.{groups_text}
use Rattle.lnet_aiger.proofs.writing.put_groups.Given as goal

abbrev pub invariant-loop-group : goal.invariant-loop-group
invariant-loop-group l = l.out.items ++ groups_text (5 - l.group) l.rest ≡ l.initial.out.items ++ groups_text 5 l.number
