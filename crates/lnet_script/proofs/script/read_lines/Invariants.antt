use Rattle.std.proofs.Common.{◌≡◌, ◌+◌, ◌≤◌, [], length}
use Rattle.std.specs.Option.{option_copied}
use Rattle.lnet_words.specs.Cutting.{is_byte, left, left_length, parts_behind}
use Rattle.lnet_script.specs.Pieces.{pieces_from, pieces_of}
use Rattle.lnet_script.specs.Adding.{commands_after}
use Rattle.lnet_script.proofs.script.read_lines.Given as goal

abbrev pub invariant-loop-rest : goal.invariant-loop-rest
invariant-loop-rest l = record {
  read : commands_after l.commands.items (pieces_from l.line (parts_behind (is_byte 10) (option_copied l.rest))) ≡ commands_after [] (pieces_of l.bytes);
  few : length l.commands.items + left_length (option_copied l.rest) ≤ length l.bytes;
  lines : l.line + left (option_copied l.rest) ≤ length l.bytes + 2;
}

abbrev pub decreases-loop-rest : goal.decreases-loop-rest
decreases-loop-rest l = left (option_copied l.rest)
