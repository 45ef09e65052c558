-- A table of four variables as a number.
use Rattle.std.proofs.Common.{◌≡◌, ℕ, ◌%◌, Bool, List, sym, ◌∙◌, ap, arith, get_or}
use Rattle.std.proofs.lemmas.Nat.Bits.{same_from_bits_below}
use Rattle.lnet_tables.specs.Bits.{Rows, row, by_rows, is_set, bit_of, number_by}
use Rattle.lnet_tables.specs.Words.{word_bit}
use Rattle.lnet_tables.specs.Inverse.{bit_inside, bit_of_set}
use Rattle.lnet_tables.proofs.RowNumbers.{number_below}
use Rattle.lnet_tables.proofs.Ops.{same_rows}
use Rattle.lnet_npn.proofs.Images.{set_inside}
use Rattle.lnet_tables.proofs.WordRows.{first_row}
use Rattle.lnet_tables.proofs.WordBits.{mod_bit}

pub from_rows : (ws : List ℕ) (f : ℕ → Bool) → ((r : ℕ) → word_bit ws r ≡ f r) → get_or ws 0 0 % 65536 ≡ number_by f 16
from_rows ws f h =
    same_from_bits_below 16 _ _ (omega arith) (number_below f 16) (λ i lt.
    mod_bit (get_or ws 0 0) 16 i lt ∙ sym (bit_of_set (get_or ws 0 0) i) ∙ ap bit_of (sym (first_row ws i (omega arith)) ∙ h i) ∙ sym (bit_inside f 16 i lt))

pub table_from_rows : (t : Rows) (ws : List ℕ) (n : ℕ) → t ≡ by_rows t.vars (word_bit ws) → ((r : ℕ) → word_bit ws r ≡ row t r) → n ≡ number_by (row t) 16 → t.vars ≡ 4
    → t ≡ by_rows 4 (is_set n)
table_from_rows t ws n e h z v =
    e ∙ ap (λ k. by_rows k (word_bit ws)) v
    ∙ same_rows 4 _ _ (λ r lt. h r ∙ sym (set_inside (row t) 16 r lt) ∙ ap (λ k. is_set k r) (sym z))
