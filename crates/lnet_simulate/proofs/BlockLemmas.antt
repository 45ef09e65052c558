-- Blocks of 64 assignments by number.
use Rattle.std.proofs.Common.{◌≡◌, ℕ, ◌+◌, ◌-◌, ◌*◌, ◌^◌, ◌/◌, ◌<◌, ◌≤◌, true, false, eqb, sym, ap, ◌∙◌, arith, nat_lt, bit_and, pow_mono, ◌==◌}
use Rattle.std.specs.Int.{bit_at}
use Rattle.std.proofs.lemmas.Bool.{lt-ltb}
use Rattle.std.proofs.lemmas.Nat.{pow-add}
use Rattle.std.proofs.lemmas.Nat.Bits.{bit_at_cat_low, bit_at_cat_high}
use Rattle.lnet_tables.specs.Bits.{is_set}
use Rattle.lnet_tables.proofs.Constants.{test_bit}
use Rattle.lnet_simulate.proofs.LaneLemmas.{no-lane, each-lane}

pub low-bit : (block i j : ℕ) → i < 6 → is_set (64 * block + j) i ≡ is_set j i
unfolding is_set
low-bit block i j low =
    let e : 64 * block + j ≡ block * 2 ^ 6 + j = omega arith in
    ap (λ k. bit_at k i == 1) e ∙ ap (λ k. k == 1) (bit_at_cat_low block 6 j i low)

pub high-bit : (block i j : ℕ) → 6 ≤ i → j < 64 → is_set (64 * block + j) i ≡ is_set block (i - 6)
unfolding is_set
high-bit block i j high lt =
    let e : 64 * block + j ≡ block * 2 ^ 6 + j = omega arith in
    ap (λ k. bit_at k i == 1) e ∙ ap (λ k. k == 1) (bit_at_cat_high block 6 j i lt high)

-- the code's test of the block's bit
pub true-block : (block i j : ℕ) → 6 ≤ i → j < 64 → eqb (bit_and (block / 2 ^ (i - 6)) 1) 1 ≡ true → is_set 18446744073709551615 j ≡ is_set (64 * block + j) i
true-block block i j high lt test = each-lane j lt ∙ sym (high-bit block i j high lt ∙ sym (test_bit block (i - 6)) ∙ test)

pub false-block : (block i j : ℕ) → 6 ≤ i → j < 64 → eqb (bit_and (block / 2 ^ (i - 6)) 1) 1 ≡ false → is_set 0 j ≡ is_set (64 * block + j) i
false-block block i j high lt test = no-lane j ∙ sym (high-bit block i j high lt ∙ sym (test_bit block (i - 6)) ∙ test)

-- from 6 inputs on all lanes are used
pub all-used : (n j : ℕ) → 6 ≤ n → j < 64 → nat_lt j (2 ^ 6) ≡ nat_lt j (2 ^ n)
all-used n j high lt = lt-ltb j (2 ^ 6) lt ∙ sym (lt-ltb j (2 ^ n) (let more : 2 ^ 6 ≤ 2 ^ n = pow_mono {i = 6} {j = n} high in omega arith))

pub blocks : (n : ℕ) → 6 ≤ n → 2 ^ n ≡ 64 * 2 ^ (n - 6)
blocks n high =
    let e : n ≡ 6 + (n - 6) = omega arith in
    ap (λ k. 2 ^ k) e ∙ pow-add 2 6 (n - 6)
