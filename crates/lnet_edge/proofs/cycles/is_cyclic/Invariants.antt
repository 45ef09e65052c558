use Rattle.std.proofs.Common.{◌≡◌, ◌<◌, [], ℕ}
use Rattle.lnet_edge.specs.declared.cycles.Progress.TheVariants.{Done}
use Rattle.lnet_edge.specs.CircuitLists.{equation_views}
use Rattle.lnet_edge.specs.Searches.{progress_at, IsSearch}
use Rattle.lnet_edge.proofs.cycles.is_cyclic.Given as goal

abbrev pub invariant-loop-root : goal.invariant-loop-root
invariant-loop-root l = record {
  search : IsSearch (equation_views l.equations) l.progress.items l.path.items;
  empty : l.path.items ≡ [];
  done : (k : ℕ) → k < l.root → progress_at l.progress.items k ≡ Done;
}
