use Rattle.lnet_gates.proofs.Underway.{Underway}
use Rattle.lnet_gates.proofs.planning.in_kind.Given as goal

abbrev pub invariant-loop-i : goal.invariant-loop-i
invariant-loop-i l = Underway l.kind l.whole l.i l.recipe l.lits.items
