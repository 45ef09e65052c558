use Rattle.std.proofs.Common.{◌≡◌, ◌+◌, ◌≤◌, length}
use Rattle.lnet_bliflines.specs.Words.{words_in, words_at}
use Rattle.lnet_blif.specs.Listing.{state_view, size}
use Rattle.lnet_blif.specs.Reading.{start, lines_after}
use Rattle.lnet_blif.proofs.reading.read_lines.Given as goal

abbrev pub invariant-loop-place : goal.invariant-loop-place
invariant-loop-place l = record {
  read : lines_after (state_view l.lists l.place) (words_at l.lines) ≡ lines_after start (words_in l.bytes);
  few : length l.lists.wires + length l.lines.rest ≤ length l.bytes;
  few_ports : size (state_view l.lists l.place) + length l.lines.rest ≤ length l.bytes;
}

abbrev pub decreases-loop-place : goal.decreases-loop-place
decreases-loop-place l = length (words_at l.lines)
