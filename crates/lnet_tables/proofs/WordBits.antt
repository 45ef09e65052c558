-- Bits of one word of 64 rows, under shifts and masks.
use Rattle.std.proofs.Common.{◌≡◌, ℕ, ◌+◌, ◌-◌, ◌*◌, ◌^◌, ◌/◌, ◌%◌, ◌<◌, ◌≤◌, Bool, true, false, refl, sym, ◌∙◌, ap, arith, ◌==◌, inl, inr, not, bit_and, bit_or}
use Rattle.std.specs.Int.{bit_at}
use Rattle.std.proofs.lemmas.Nat.{one_shl, pow_pos, pow_below, shr-shr, div-add-mod'}
use Rattle.std.proofs.lemmas.Nat.Bits.{bit_at-lt, bit_at-zero, bit_at_and, bit_at_or, bit_at_cat_low, bit_at_cat_high}
use Rattle.std.proofs.lemmas.Bool.{cases_lt}
use native.Mathlib.Nat.{add-div_right}
use Rattle.lnet_tables.specs.Bits.{is_set, with_bit, bit_of}
use Rattle.lnet_tables.specs.Inverse.{bit_of_set}
use Rattle.lnet_tables.proofs.RowNumbers.{bit_within}

pub bit_up : (b i : ℕ) → bit_at (b + 2 ^ i) i ≡ 1 - bit_at b i
bit_up b i = rw (add-div_right b (pow_pos i)) (omega arith)

pub bit_down : (b i : ℕ) → 2 ^ i ≤ b → bit_at (b - 2 ^ i) i ≡ 1 - bit_at b i
bit_down b i h =
    let e : (b - 2 ^ i) + 2 ^ i ≡ b = omega arith in
    let u : bit_at b i ≡ 1 - bit_at (b - 2 ^ i) i = ap (λ n. bit_at n i) (sym e) ∙ bit_up (b - 2 ^ i) i in
    omega (arith, bit_at-lt (b - 2 ^ i) i)

pub shr_bit : (n s b : ℕ) → bit_at (n / 2 ^ s) b ≡ bit_at n (b + s)
shr_bit n s b = ap (λ m. m % 2) (shr-shr n s b ∙ ap (λ k. n / 2 ^ k) (omega arith))

pub mod_bit : (n w b : ℕ) → b < w → bit_at (n % 2 ^ w) b ≡ bit_at n b
mod_bit n w b h = sym (bit_at_cat_low (n / 2 ^ w) w (n % 2 ^ w) b h) ∙ ap (λ m. bit_at m b) (div-add-mod' n (2 ^ w))

pub shl_low : (n s b : ℕ) → b < 64 → b < s → bit_at (n * 2 ^ s % 18446744073709551616) b ≡ 0
shl_low n s b h lt =
    let e : n * 2 ^ s + 0 ≡ n * 2 ^ s = omega arith in
    mod_bit (n * 2 ^ s) 64 b h ∙ ap (λ m. bit_at m b) (sym e) ∙ bit_at_cat_low n s 0 b lt ∙ bit_at-zero b

pub shl_high : (n s b : ℕ) → b < 64 → s ≤ b → bit_at (n * 2 ^ s % 18446744073709551616) b ≡ bit_at n (b - s)
shl_high n s b h le =
    let e : n * 2 ^ s + 0 ≡ n * 2 ^ s = omega arith in
    mod_bit (n * 2 ^ s) 64 b h ∙ ap (λ m. bit_at m b) (sym e) ∙ bit_at_cat_high n s 0 b (pow_pos s) le

bit_of_not : (v : Bool) → bit_of (not v) ≡ 1 - bit_of v
bit_of_not true = refl
bit_of_not false = refl

-- a mask of the rows whose bit i is 0
pub low_bit : (m i b : ℕ) → is_set m b ≡ not (is_set b i) → bit_at m b ≡ 1 - bit_at b i
low_bit m i b h = sym (bit_of_set m b) ∙ ap bit_of h ∙ bit_of_not (is_set b i) ∙ ap (λ k. 1 - k) (bit_of_set b i)

-- the rows of x whose bit i is 0, in their place and again where bit i is 1
abbrev pub doubled : ℕ → ℕ → ℕ → ℕ
doubled x m i = bit_or (bit_and x m) (bit_and x m * 2 ^ 2 ^ i % 18446744073709551616)

doubled_low : (x m i b : ℕ) → b < 64 → ((r : ℕ) → r < 64 → bit_at m r ≡ 1 - bit_at r i) → bit_at b i ≡ 0 → bit_at (doubled x m i) b ≡ bit_at x b
doubled_low x m i b h low z =
    let here : bit_at (bit_and x m) b ≡ bit_at x b = bit_at_and x m b ∙ rw (low b h, z) (omega (arith, bit_at-lt x b)) in
    elim (cases_lt b (2 ^ i)) [
      | inl lt ↦ bit_at_or (bit_and x m) (bit_and x m * 2 ^ 2 ^ i % 18446744073709551616) b ∙ rw (here, shl_low (bit_and x m) (2 ^ i) b h lt) (omega arith)
      | inr ge ↦
          let flipped : bit_at (b - 2 ^ i) i ≡ 1 = bit_down b i ge ∙ rw z refl in
          let there : bit_at (bit_and x m) (b - 2 ^ i) ≡ 0 = bit_at_and x m (b - 2 ^ i) ∙ rw (low (b - 2 ^ i) (omega arith), flipped) (omega arith) in
          bit_at_or (bit_and x m) (bit_and x m * 2 ^ 2 ^ i % 18446744073709551616) b ∙ rw (here, shl_high (bit_and x m) (2 ^ i) b h ge, there) (omega arith)
    ]

doubled_high : (x m i b : ℕ) → b < 64 → ((r : ℕ) → r < 64 → bit_at m r ≡ 1 - bit_at r i) → bit_at b i ≡ 1 → bit_at (doubled x m i) b ≡ bit_at x (b - 2 ^ i)
doubled_high x m i b h low o =
    let ge : 2 ^ i ≤ b = omega (arith, rw o at (bit_within b i)) in
    let here : bit_at (bit_and x m) b ≡ 0 = bit_at_and x m b ∙ rw (low b h, o) (omega arith) in
    let flipped : bit_at (b - 2 ^ i) i ≡ 0 = bit_down b i ge ∙ rw o refl in
    let there : bit_at (bit_and x m) (b - 2 ^ i) ≡ bit_at x (b - 2 ^ i) =
    bit_at_and x m (b - 2 ^ i) ∙ rw (low (b - 2 ^ i) (omega arith), flipped) (omega (arith, bit_at-lt x (b - 2 ^ i))) in
    bit_at_or (bit_and x m) (bit_and x m * 2 ^ 2 ^ i % 18446744073709551616) b ∙ rw (here, shl_high (bit_and x m) (2 ^ i) b h ge, there) (omega arith)

pub doubled_bit : (x m i b : ℕ) → b < 64 → ((r : ℕ) → r < 64 → is_set m r ≡ not (is_set r i)) → bit_at (doubled x m i) b ≡ bit_at x (b - bit_at b i * 2 ^ i)
doubled_bit x m i b h low =
    let mask : (r : ℕ) → r < 64 → bit_at m r ≡ 1 - bit_at r i = λ r lt. low_bit m i r (low r lt) in
    elim (cases_lt (bit_at b i) 1) [
      | inl lt ↦
          let z : bit_at b i ≡ 0 = omega arith in
          doubled_low x m i b h mask z ∙ ap (λ k. bit_at x k) (rw z (omega arith))
      | inr ge ↦
          let o : bit_at b i ≡ 1 = omega (arith, bit_at-lt b i) in
          doubled_high x m i b h mask o ∙ ap (λ k. bit_at x k) (rw o (omega arith))
    ]

-- the cofactor of one word
pub cofactor_low : (x m i b : ℕ) → b < 64 → ((r : ℕ) → r < 64 → is_set m r ≡ not (is_set r i)) → is_set (doubled x m i) b ≡ is_set x (with_bit b i false)
unfolding is_set with_bit
cofactor_low x m i b h low = ap (λ k. k == 1) (doubled_bit x m i b h low ∙ ap (λ k. bit_at x k) (omega arith))

pub cofactor_high : (x m i b : ℕ) → b < 64 → ((r : ℕ) → r < 64 → is_set m r ≡ not (is_set r i)) → is_set (doubled (x / 2 ^ 2 ^ i) m i) b ≡ is_set x (with_bit b i true)
unfolding is_set with_bit
cofactor_high x m i b h low =
    ap (λ k. k == 1) (doubled_bit (x / 2 ^ 2 ^ i) m i b h low ∙ shr_bit x (2 ^ i) (b - bit_at b i * 2 ^ i) ∙ ap (λ k. bit_at x k) (omega arith))

-- the code's distance between the rows that differ in bit i
pub distance_is : (i : ℕ) → i < 6 → 1 * 2 ^ i % 4294967296 ≡ 2 ^ i
distance_is i h = one_shl i 32 (omega arith)

pub distance_fits : (i : ℕ) → i < 6 → 1 * 2 ^ i % 4294967296 < 64
distance_fits i h = rw (distance_is i h) (pow_below i 6 h)
