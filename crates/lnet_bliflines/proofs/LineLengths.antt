-- How long a line and what is behind it are.
use Rattle.std.proofs.Common.{ℕ, ◌+◌, ◌≤◌, List, length, arith}
use Rattle.std.proofs.lemmas.Grind.{common_steps}
use Rattle.lnet_lines.specs.Lines.{without_return, first_line, after_line}

few_without : (piece : List ℕ) → length (without_return piece) ≤ length piece
few_without piece = grind (arith, common_steps)

pub few_line : (bytes : List ℕ) → length (first_line bytes) + length (after_line bytes) ≤ length bytes
few_line bytes = grind (arith, common_steps, few_without)
