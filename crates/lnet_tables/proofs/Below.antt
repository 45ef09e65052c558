-- Tables that depend on their first variables only, and the rows of their cofactors.
use Rattle.std.proofs.Common.{◌≡◌, ℕ, ◌+◌, ◌*◌, ◌^◌, ◌/◌, ◌%◌, ◌<◌, ◌≤◌, Bool, true, false, sym, ◌∙◌, ap, arith, add-mul, mul_comm, mul_assoc}
use Rattle.lnet_tables.specs.Bits.{Rows, row, is_set, with_bit, cofactor_rows, bit_of}
use Rattle.lnet_tables.specs.Inverse.{row_inside, bit_of_set}
use Rattle.lnet_tables.proofs.RowNumbers.{put_fits}
use Rattle.std.specs.Int.{bit_at}
use Rattle.std.proofs.lemmas.Nat.{div-add-mod', mod_below, pow_pos, pow-add, mod-mul-add}

-- the table depends on its first v variables only
pub record Below (v : ℕ) (t : Rows) : Type 0 where
  pub same : (r : ℕ) → r < 2 ^ t.vars → row t r ≡ row t (r % 2 ^ v)

-- q, d and l are the parts of r above, at and below bit i, and p is 2 ^ i
parts : (r p q d l : ℕ) → r ≡ (2 * q + d) * p + l → r ≡ q * (2 * p) + (d * p + l)
parts r p q d l e = e ∙ ap (λ k. k + l) (add-mul (2 * q) d p ∙ ap (λ k. k + d * p) (ap (λ k. k * p) (mul_comm 2 q) ∙ mul_assoc q 2 p)) ∙ omega arith

split : (r i : ℕ) → r ≡ (r / 2 ^ i / 2) * (2 * 2 ^ i) + (bit_at r i * 2 ^ i + r % 2 ^ i)
split r i =
    let h : r / 2 ^ i ≡ 2 * (r / 2 ^ i / 2) + bit_at r i = omega arith in
    parts r (2 ^ i) (r / 2 ^ i / 2) (bit_at r i) (r % 2 ^ i) (sym (div-add-mod' r (2 ^ i)) ∙ ap (λ k. k * 2 ^ i + r % 2 ^ i) h)

put_form : (r i : ℕ) (b : Bool) → with_bit r i b ≡ (r / 2 ^ i / 2) * (2 * 2 ^ i) + (bit_of b * 2 ^ i + r % 2 ^ i)
unfolding with_bit
put_form r i b = omega (arith, split r i)

one_more : (i : ℕ) → 2 ^ (i + 1) ≡ 2 * 2 ^ i
one_more i = pow-add 2 i 1 ∙ omega arith

bit_times : (b : Bool) (p : ℕ) → bit_of b * p ≤ p
bit_times true p = omega arith
bit_times false p = omega arith

put_mod : (r i : ℕ) (b : Bool) → with_bit r i b % 2 ^ (i + 1) ≡ bit_of b * 2 ^ i + r % 2 ^ i
put_mod r i b =
    rw (put_form r i b, one_more i)
    (mod-mul-add (r / 2 ^ i / 2) (2 * 2 ^ i) (bit_of b * 2 ^ i + r % 2 ^ i) (omega (arith, bit_times b (2 ^ i), mod_below r (2 ^ i) (pow_pos i))))

mod_twice : (r i : ℕ) → r % 2 ^ i % 2 ^ i ≡ r % 2 ^ i
mod_twice r i = (let z : r % 2 ^ i ≡ 0 * 2 ^ i + r % 2 ^ i = omega arith in ap (λ k. k % 2 ^ i) z) ∙ mod-mul-add 0 (2 ^ i) (r % 2 ^ i) (mod_below r (2 ^ i) (pow_pos i))

mod_put : (r i : ℕ) (b : Bool) → with_bit r i b % 2 ^ (i + 1) ≡ with_bit (r % 2 ^ i) i b % 2 ^ (i + 1)
mod_put r i b = put_mod r i b ∙ sym (put_mod (r % 2 ^ i) i b ∙ ap (λ k. bit_of b * 2 ^ i + k) (mod_twice r i))

put_fits_part : (r i n : ℕ) → i < n → r < 2 ^ n → r % 2 ^ i < 2 ^ n
put_fits_part r i n lt h = omega arith

pub below_cofactor : (t : Rows) (i : ℕ) (b : Bool) → i < t.vars → Below (i + 1) t → Below i (cofactor_rows t i b)
below_cofactor t i b lt h = record {
  same = λ r l.
      row_inside t.vars _ r l
      ∙ h.same (with_bit r i b) (put_fits r i t.vars lt l b)
      ∙ ap (λ (k : ℕ). row t k) (mod_put r i b)
      ∙ sym (h.same (with_bit (r % 2 ^ i) i b) (put_fits (r % 2 ^ i) i t.vars lt (put_fits_part r i t.vars lt l) b))
      ∙ sym (row_inside t.vars _ (r % 2 ^ i) (put_fits_part r i t.vars lt l));
}

put_same : (r i : ℕ) → (b : Bool) → is_set r i ≡ b → with_bit r i b ≡ r
put_same r i b e =
    put_form r i b ∙ ap (λ k. (r / 2 ^ i / 2) * (2 * 2 ^ i) + (k * 2 ^ i + r % 2 ^ i)) (ap bit_of (sym e) ∙ bit_of_set r i) ∙ sym (split r i)

pub cofactor_row : (t : Rows) (i : ℕ) (b : Bool) → i < t.vars → (r : ℕ) → r < 2 ^ t.vars → is_set r i ≡ b → row (cofactor_rows t i b) r ≡ row t r
cofactor_row t i b lt r l e = row_inside t.vars _ r l ∙ ap (λ (k : ℕ). row t k) (put_same r i b e)

-- a table that depends on no variable
pub constant_row : (t : Rows) (v : ℕ) → v ≡ 0 → Below v t → (r : ℕ) → r < 2 ^ t.vars → row t r ≡ row t 0
constant_row t v e h r lt = h.same r lt ∙ ap (λ (k : ℕ). row t (r % 2 ^ k)) e ∙ ap (λ (k : ℕ). row t k) (let z : r % 1 ≡ 0 = omega arith in z)

pub below_all : (t : Rows) → Below t.vars t
below_all t = record { same = λ r lt. ap (λ (k : ℕ). row t k) (sym ((let z : r ≡ 0 * 2 ^ t.vars + r = omega arith in ap (λ k. k % 2 ^ t.vars) z) ∙ mod-mul-add 0 (2 ^ t.vars) r lt)) }
