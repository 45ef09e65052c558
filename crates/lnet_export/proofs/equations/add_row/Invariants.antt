use Rattle.std.proofs.Common.{◌≡◌, ◌++◌, filter_map, take}
use Rattle.lnet_edge.specs.CircuitLists.{equation_views}
use Rattle.lnet_export.specs.Exported.{equation_at}
use Rattle.lnet_export.proofs.equations.add_row.Given as goal

abbrev pub invariant-loop-n : goal.invariant-loop-n
invariant-loop-n g l = equation_views l.equations.items ≡ equation_views l.initial.equations.items ++ filter_map (equation_at l.net.core.network) (take l.n-index l.gates)
