use Rattle.lnet_edge.specs.CircuitLists.{equation_views}
use Rattle.lnet_edge.specs.Searches.{IsSearch, KeepsDone, KeepsMet, work, operand_count}
use Rattle.lnet_edge.proofs.cycles.follow.Given as goal

abbrev pub invariant-loop-progress : goal.invariant-loop-progress
invariant-loop-progress l = record {
  search : IsSearch (equation_views l.equations) l.progress l.path.items;
  done : KeepsDone l.initial.progress l.progress;
  met : KeepsMet l.initial.progress l.progress;
}

abbrev pub decreases-loop-progress : goal.decreases-loop-progress
decreases-loop-progress l = work (operand_count (equation_views l.equations)) l.progress
