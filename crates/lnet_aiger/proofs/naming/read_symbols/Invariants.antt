use Rattle.std.proofs.Common.{◌≡◌, length}
use Rattle.lnet_lines.specs.Lines.{lines_of}
use Rattle.lnet_aiger.specs.Reading.{symbols_at}
use Rattle.lnet_aiger.specs.Views.{ports_view}
use Rattle.lnet_aiger.proofs.naming.read_symbols.Given as goal

abbrev pub invariant-loop-line : goal.invariant-loop-line
invariant-loop-line l = symbols_at l.lines.number (lines_of l.lines.rest) (ports_view l.ports) ≡ symbols_at l.initial.lines.number (lines_of l.initial.lines.rest) (ports_view l.initial.ports)

abbrev pub decreases-loop-line : goal.decreases-loop-line
decreases-loop-line l = length l.lines.rest
