use Rattle.lnet_npn.proofs.Marked.{AreSeen}
use Rattle.lnet_npn.proofs.marking.mark_class.Given as goal

abbrev pub invariant-loop-arrangement : goal.invariant-loop-arrangement
invariant-loop-arrangement l = AreSeen l.word l.arrangement-index l.initial.marks l.marks
