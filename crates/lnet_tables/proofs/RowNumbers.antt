-- Numbers of rows.
use Rattle.std.proofs.Common.{◌≡◌, ℕ, ◌+◌, ◌-◌, ◌*◌, ◌^◌, ◌/◌, ◌%◌, ◌<◌, ◌≤◌, Bool, true, false, refl, sym, ◌∙◌, ap, arith, suc, zero, inl, inr, lit<, add-one, bit_and, add-mul}
use Rattle.std.specs.Int.{bit_at}
use Rattle.std.proofs.lemmas.Nat.{pow_pos, pow-add, div-add-mod', mul-le, div_below, mod_below, pow_below}
use Rattle.std.proofs.lemmas.Nat.Bits.{bit_at-lt, shr_and_one}
use Rattle.std.proofs.lemmas.Bool.{cases_lt}
use Rattle.lnet_tables.specs.Bits.{bit_of, number_by, with_bit}

bit_small : (b : Bool) → bit_of b ≤ 1
bit_small true = omega arith
bit_small false = omega arith

two_more : (n : ℕ) → 2 ^ suc n ≡ 2 * 2 ^ n
two_more n = ap (λ k. 2 ^ k) (sym (add-one n)) ∙ pow-add 2 n 1 ∙ omega arith

twice : (b : Bool) (n : ℕ) → bit_of b * 2 ^ suc n ≡ 2 * (bit_of b * 2 ^ n)
twice true n = omega (arith, two_more n)
twice false n = omega arith

pub number_below : (f : ℕ → Bool) (n : ℕ) → number_by f n < 2 ^ n
unfolding number_by
number_below f zero = lit< tt
number_below f (suc n) =
    let h : number_by (λ i. f (i + 1)) n < 2 ^ n = number_below (λ i. f (i + 1)) n in
    omega (arith, bit_small (f 0), two_more n)

pub number_suc : (f : ℕ → Bool) (n : ℕ) → number_by f (suc n) ≡ number_by f n + bit_of (f n) * 2 ^ n
unfolding number_by
number_suc f zero = omega arith
number_suc f (suc n) =
    let e : number_by (λ i. f (i + 1)) (suc n) ≡ number_by (λ i. f (i + 1)) n + bit_of (f (n + 1)) * 2 ^ n = number_suc (λ i. f (i + 1)) n in
    let a : bit_of (f (n + 1)) ≡ bit_of (f (suc n)) = rw add-one refl in
    let t : bit_of (f (suc n)) * 2 ^ suc n ≡ 2 * (bit_of (f (suc n)) * 2 ^ n) = twice (f (suc n)) n in
    rw (e, a, t) (omega arith)

pub number_more : (f : ℕ → Bool) (n : ℕ) → number_by f (n + 1) ≡ number_by f n + bit_of (f n) * 2 ^ n
number_more f n = rw (add-one) (number_suc f n)

-- a row without its bit i
pub bit_within : (r i : ℕ) → bit_at r i * 2 ^ i ≤ r
bit_within r i =
    let a : r / 2 ^ i % 2 ≤ r / 2 ^ i = omega arith in
    omega (arith, mul-le (r / 2 ^ i % 2) (2 ^ i) (r / 2 ^ i) (2 ^ i) a (omega arith), div-add-mod' r (2 ^ i))

-- a row whose bit i is 0 has room for it
room : (r i m : ℕ) → r < 2 ^ (suc m + i) → bit_at r i ≡ 0 → r + 2 ^ i < 2 ^ (suc m + i)
room r i m h z =
    let e : 2 ^ (suc m + i) ≡ 2 ^ suc m * 2 ^ i = pow-add 2 (suc m) i in
    let q : r / 2 ^ i < 2 ^ suc m = div_below r (2 ^ i) (2 ^ suc m) (pow_pos i) (omega arith) in
    let k : r / 2 ^ i + 2 ≤ 2 ^ suc m = omega (arith, two_more m) in
    let l : (r / 2 ^ i + 2) * 2 ^ i ≤ 2 ^ suc m * 2 ^ i = mul-le (r / 2 ^ i + 2) (2 ^ i) (2 ^ suc m) (2 ^ i) k (omega arith) in
    let s : (r / 2 ^ i + 2) * 2 ^ i ≡ r / 2 ^ i * 2 ^ i + 2 * 2 ^ i = add-mul (r / 2 ^ i) 2 (2 ^ i) in
    omega (arith, div-add-mod' r (2 ^ i), mod_below r (2 ^ i) (pow_pos i))

pub put_fits : (r i n : ℕ) → i < n → r < 2 ^ n → (v : Bool) → with_bit r i v < 2 ^ n
unfolding with_bit
put_fits r i n lt below false = omega (arith, bit_within r i)
put_fits r i n lt below true =
    elim (cases_lt (bit_at r i) 1) [
      | inl z ↦
          let e : bit_at r i ≡ 0 = omega arith in
          let m : n ≡ suc (n - i - 1) + i = omega arith in
          let t : r + 2 ^ i < 2 ^ n = rw m (room r i (n - i - 1) (rw (← m) below) e) in
          rw e (omega arith)
      | inr o ↦
          let e : bit_at r i ≡ 1 = omega (arith, bit_at-lt r i) in
          let w : 1 * 2 ^ i ≤ r = rw (← e) (bit_within r i) in
          rw e (omega arith)
    ]

-- the code's row
pub put_is : (r i : ℕ) (v : Bool) → i < 10 → r - (bit_and (r / 2 ^ i) 1 * 2 ^ i) % 65536 ≡ r - bit_at r i * 2 ^ i
put_is r i v lt =
    let p : 2 ^ i < 2 ^ 10 = pow_below i 10 lt in
    let b : bit_at r i * 2 ^ i ≤ 1 * 2 ^ i = mul-le (bit_at r i) (2 ^ i) 1 (2 ^ i) (omega (arith, bit_at-lt r i)) (omega arith) in
    rw shr_and_one (ap (λ k. r - k) ((let k : bit_at r i * 2 ^ i % 65536 ≡ bit_at r i * 2 ^ i = omega arith in k)))

pub one_is : (i : ℕ) → i < 10 → 1 * 2 ^ i % 65536 ≡ 1 * 2 ^ i
one_is i lt = let p : 2 ^ i < 2 ^ 10 = pow_below i 10 lt in omega arith

pub number_under : (f : ℕ → Bool) (i n : ℕ) → i < n → n ≤ 10 → number_by f i + 1 * 2 ^ i % 65536 < 2 ^ 16
number_under f i n lt few =
    let p : 2 ^ i < 2 ^ 10 = pow_below i 10 (omega arith) in
    omega (arith, number_below f i, one_is i (omega arith))
