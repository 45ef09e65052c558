use Rattle.std.proofs.Common.{◌≡◌, length}
use Rattle.lnet_aiger.specs.Header.{numbers_of, at_most_nine}
use Rattle.lnet_aiger.proofs.Words.{with_front}
use Rattle.lnet_aiger.proofs.header.numbers.Given as goal

abbrev pub invariant-loop-next : goal.invariant-loop-next
invariant-loop-next l = at_most_nine (with_front l.numbers.items (numbers_of l.rest)) ≡ at_most_nine (numbers_of l.line)

abbrev pub decreases-loop-next : goal.decreases-loop-next
decreases-loop-next l = length l.rest
