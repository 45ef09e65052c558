use Rattle.std.proofs.Common.{◌≡◌, ◌+◌, ◌≤◌, length}
use Rattle.std.specs.Prelude.{map}
use Rattle.lnet_lines.specs.Lines.{lines_of}
use Rattle.lnet_bliflines.specs.Joining.{before_later, joined_from}
use Rattle.lnet_bliflines.specs.Words.{words_on, words_at, word_lists}
use Rattle.lnet_bliflines.proofs.Steps.{onto_first_line}
use Rattle.lnet_bliflines.proofs.joining.joined_line.Given as goal

abbrev pub invariant-loop-words : goal.invariant-loop-words
invariant-loop-words l = record {
  line : onto_first_line (word_lists l.words.items) (map words_on (before_later l.number l.lines.number l.piece (joined_from l.lines.number (lines_of l.lines.rest)))) ≡ words_at l.fn.lines;
  few : length l.words.items + length l.piece + length l.lines.rest ≤ length l.fn.lines.rest;
}

abbrev pub decreases-loop-words : goal.decreases-loop-words
decreases-loop-words l = length l.lines.rest
