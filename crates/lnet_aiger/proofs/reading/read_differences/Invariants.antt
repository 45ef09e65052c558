use Rattle.std.proofs.Common.{◌≡◌, ◌-◌, ◌+◌, ◌*◌}
use Rattle.lnet_edge.specs.CircuitLists.{equation_views}
use Rattle.lnet_aiger.specs.Deltas.{difference_at}
use Rattle.lnet_aiger.specs.Reading.{items_at, differences_at}
use Rattle.lnet_aiger.proofs.Loop.{with_front}
use Rattle.lnet_aiger.proofs.reading.read_differences.Given as goal

abbrev pub invariant-loop-place : goal.invariant-loop-place
invariant-loop-place l = with_front (equation_views l.items.items) (items_at (λ i. difference_at (2 * (l.inputs + 1 + i))) (l.count - l.place) l.place l.lines) ≡ differences_at l.inputs l.count l.initial.lines
