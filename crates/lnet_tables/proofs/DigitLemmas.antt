-- The digits of a table, one after the other.
use Rattle.std.proofs.Common.{◌≡◌, ℕ, suc, ◌+◌, ◌-◌, ◌/◌, ◌%◌, ◌^◌, ◌<◌, false, List, ◌++◌, sym, ap, ◌∙◌, append_assoc, arith}
use Rattle.std.specs.Fmt.{digits}
use Rattle.lnet_tables.specs.Digits.{hex_digits}

pub digits-one : (width done table : ℕ) → done < width →
    hex_digits (width - done) table ≡ digits 16 false ((table / 16 ^ (width - 1 - done)) % 16) ++ hex_digits (width - (done + 1)) table
digits-one width done table lt =
    let more : width - done ≡ suc (width - (done + 1)) = omega arith in
    let same : width - 1 - done ≡ width - (done + 1) = omega arith in
    ap (λ k. hex_digits k table) more ∙ ap (λ j. digits 16 false ((table / 16 ^ j) % 16) ++ hex_digits (width - (done + 1)) table) (sym same)

-- a text and what comes after it, a piece further
pub onward : (before after piece rest now total : List ℕ) → after ≡ before ++ piece → now ≡ piece ++ rest → before ++ now ≡ total → after ++ rest ≡ total
onward before after piece rest now total grown is so_far = ap (λ t. t ++ rest) grown ∙ append_assoc before piece rest ∙ ap (λ t. before ++ t) (sym is) ∙ so_far
