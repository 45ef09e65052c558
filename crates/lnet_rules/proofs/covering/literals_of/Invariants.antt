use Rattle.std.proofs.Common.{◌≡◌, ◌++◌, drop}
use Rattle.lnet_rules.specs.Rules.{literals}
use Rattle.lnet_rules.proofs.covering.literals_of.Given as goal

abbrev pub invariant-loop-i : goal.invariant-loop-i
invariant-loop-i l = l.literals.items ++ literals (drop l.i l.row) (drop l.i l.operands) ≡ literals l.row l.operands
