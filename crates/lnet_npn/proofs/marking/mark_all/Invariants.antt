use Rattle.lnet_npn.proofs.Marked.{AreMarked}
use Rattle.lnet_npn.proofs.marking.mark_all.Given as goal

abbrev pub invariant-loop-image : goal.invariant-loop-image
invariant-loop-image l = AreMarked l.images l.image-index l.initial.marks l.marks
