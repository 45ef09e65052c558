use Rattle.std.proofs.Common.{◌≡◌, ◌+◌, ◌*◌, ◌≤◌, length}
use Rattle.lnet_lines.specs.Lines.{lines_of}
use Rattle.lnet_bench.specs.Listing.{nothing, lists_view}
use Rattle.lnet_bench.specs.Reading.{lines_after}
use Rattle.lnet_bench.proofs.reading.read_lines.Given as goal

abbrev pub invariant-loop-line : goal.invariant-loop-line
invariant-loop-line l = record {
  read : lines_after l.driven l.lines.number (lists_view l.lists) (lines_of l.lines.rest) ≡ lines_after l.driven 1 nothing (lines_of l.bytes);
  few : length l.lists.wires + 3 * length l.lines.rest ≤ 3 * length l.bytes;
}

abbrev pub decreases-loop-line : goal.decreases-loop-line
decreases-loop-line l = length l.lines.rest
