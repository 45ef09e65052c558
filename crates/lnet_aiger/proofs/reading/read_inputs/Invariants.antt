use Rattle.std.proofs.Common.{◌≡◌, ◌-◌}
use Rattle.lnet_aiger.specs.LineRules.{input_line}
use Rattle.lnet_aiger.specs.Reading.{item_at, items_at, lines_at}
use Rattle.lnet_aiger.proofs.Loop.{with_front}
use Rattle.lnet_aiger.proofs.reading.read_inputs.Given as goal

abbrev pub invariant-loop-place : goal.invariant-loop-place
invariant-loop-place l = with_front (l.items.items) (items_at (λ i. item_at (input_line l.top)) (l.count - l.place) l.place l.lines) ≡ lines_at (input_line l.top) l.count l.initial.lines
