use Rattle.std.proofs.Common.{◌≡◌, flat_map, filter_map, take}
use Rattle.lnet_edge.specs.CircuitLists.{equation_views}
use Rattle.lnet_export.specs.Exported.{equation_at}
use Rattle.lnet_export.proofs.equations.equations_of.Given as goal

abbrev pub invariant-loop-row : goal.invariant-loop-row
invariant-loop-row g l = equation_views l.equations.items ≡ filter_map (equation_at l.net.core.network) (flat_map (λ r. r) (take l.row-index l.rows))
