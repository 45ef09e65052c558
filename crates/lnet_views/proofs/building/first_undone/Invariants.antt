use Rattle.lnet_views.proofs.FromScratch.{IsLooking}
use Rattle.lnet_views.proofs.building.first_undone.Given as goal

abbrev pub invariant-loop-s : goal.invariant-loop-s
invariant-loop-s l = IsLooking l.levels.items l.gate.fanins l.s-index
