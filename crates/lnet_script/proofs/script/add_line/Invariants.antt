use Rattle.std.proofs.Common.{◌≡◌, ◌+◌, ◌≤◌, length}
use Rattle.std.specs.Option.{option_copied}
use Rattle.lnet_words.specs.Cutting.{is_byte, left, left_length, parts_behind}
use Rattle.lnet_script.specs.Pieces.{line_pieces, pieces_on}
use Rattle.lnet_script.specs.Adding.{commands_after}
use Rattle.lnet_script.proofs.script.add_line.Given as goal

abbrev pub invariant-loop-rest : goal.invariant-loop-rest
invariant-loop-rest l = record {
  read : commands_after l.commands.items (pieces_on l.line (parts_behind (is_byte 59) (option_copied l.rest))) ≡ commands_after l.initial.commands.items (line_pieces l.line l.content);
  few : length l.commands.items + left_length (option_copied l.rest) ≤ length l.initial.commands.items + length l.content;
}

abbrev pub decreases-loop-rest : goal.decreases-loop-rest
decreases-loop-rest l = left (option_copied l.rest)
