use Rattle.std.proofs.Common.{◌≡◌, ◌-◌}
use Rattle.lnet_edge.specs.CircuitLists.{equation_views}
use Rattle.lnet_aiger.specs.LineRules.{equation_line}
use Rattle.lnet_aiger.specs.Reading.{item_at, items_at, lines_at}
use Rattle.lnet_aiger.proofs.Loop.{with_front}
use Rattle.lnet_aiger.proofs.reading.read_equations.Given as goal

abbrev pub invariant-loop-place : goal.invariant-loop-place
invariant-loop-place l = with_front (equation_views l.items.items) (items_at (λ i. item_at (equation_line l.top)) (l.count - l.place) l.place l.lines) ≡ lines_at (equation_line l.top) l.count l.initial.lines
