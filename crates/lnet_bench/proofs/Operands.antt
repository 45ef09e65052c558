-- Operands between commas.
use Rattle.std.proofs.Common.{◌≡◌, ℕ, ◌+◌, true, List, Ok, refl}
use Rattle.std.specs.Prelude.{count_by}
use Rattle.std.proofs.lemmas.List.Splits.{length-slice_split}
use Rattle.lnet_words.specs.Cutting.{is_byte}
use Rattle.lnet_bench.specs.Statements.{are_names, operand_count, or_syntax}

pub counted : (args : List ℕ) → are_names args ≡ true → or_syntax (operand_count args) ≡ Ok (count_by (is_byte 44) args + 1)
counted args all = rw (all, length-slice_split (is_byte 44) args) refl
