-- Numbers made bit by bit.
use Rattle.std.proofs.Common.{◌≡◌, ℕ, ◌+◌, ◌*◌, ◌^◌, ◌%◌, ◌<◌, Bool, true, false, sym, ◌∙◌, ap, arith, suc, add-one}
use Rattle.std.proofs.lemmas.Nat.{one_shl, pow-add}
use Rattle.lnet_tables.specs.Bits.{number_by}
use Rattle.lnet_tables.proofs.RowNumbers.{number_below, number_more}
use Rattle.lnet_tables.proofs.Constants.{pow_within}

two_more : (n : ℕ) → 2 ^ suc n ≡ 2 * 2 ^ n
two_more n = ap (λ k. 2 ^ k) (sym (add-one n)) ∙ pow-add 2 n 1 ∙ omega arith

one_at : (w i : ℕ) → i < w → 1 * 2 ^ i % 2 ^ w ≡ 2 ^ i
one_at w i lt = one_shl i w lt

-- there is room for one more bit
pub room : (f : ℕ → Bool) (w i : ℕ) → i < w → number_by f i + 1 * 2 ^ i % 2 ^ w < 2 ^ w
room f w i lt = rw (one_at w i lt) (omega (arith, number_below f i, two_more i, pow_within (suc i) w (omega arith)))

-- one more bit, true or false
pub more_set : (f : ℕ → Bool) (w i : ℕ) → i < w → f i ≡ true → number_by f i + 1 * 2 ^ i % 2 ^ w ≡ number_by f (i + 1)
more_set f w i lt e = rw (one_at w i lt, number_more f i, e) (omega arith)

pub more_unset : (f : ℕ → Bool) (i : ℕ) → f i ≡ false → number_by f i ≡ number_by f (i + 1)
more_unset f i e = rw (number_more f i, e) (omega arith)
