use Rattle.std.proofs.Common.{◌≡◌, ℕ, ◌<◌, get_or, false}
use Rattle.lnet_lines.specs.Lines.{is_newline}
use Rattle.lnet_lines.proofs.lines.piece_len.Given as goal

abbrev pub invariant-loop-i : goal.invariant-loop-i
invariant-loop-i l = (k : ℕ) → k < l.i → is_newline (get_or l.bytes k 0) ≡ false
