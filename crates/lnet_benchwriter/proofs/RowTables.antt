-- Tables from the last row down.
use Rattle.std.proofs.Common.{◌≡◌, ℕ, suc, ◌+◌, ◌-◌, ◌*◌, ◌^◌, ◌<◌, ◌≤◌, Bool, true, false, refl, sym, ap, ◌∙◌, arith}
use Rattle.std.specs.Int.{from_bool}
use lib.Pow.{pow_mono}
use Rattle.lnet_tables.specs.Bits.{number_by, bit_of}
use Rattle.lnet_tables.proofs.RowNumbers.{number_below}
use Rattle.lnet_tables.proofs.Shrunk.{number_same}

number-first : (f : ℕ → Bool) (n : ℕ) → number_by f (suc n) ≡ bit_of (f 0) + 2 * number_by (λ i. f (i + 1)) n
unfolding number_by
number-first f n = refl

-- a row more
table-next : (f : ℕ → Bool) (n k : ℕ) → k < n → 2 * number_by (λ i. f (suc k + i)) (n - suc k) + bit_of (f k) ≡ number_by (λ i. f (k + i)) (n - k)
table-next f n k low =
    let zero_more : k + 0 ≡ k = omega arith in
    let count : n - k ≡ suc (n - suc k) = omega arith in
    let rest : number_by (λ i. f (k + (i + 1))) (n - suc k) ≡ number_by (λ i. f (suc k + i)) (n - suc k) = number_same (λ i. f (k + (i + 1))) (λ i. f (suc k + i)) (n - suc k) (λ i h. let e : k + (i + 1) ≡ suc k + i = omega arith in ap f e) in
    let first = ap (λ j. number_by (λ i. f (k + i)) j) count ∙ number-first (λ i. f (k + i)) (n - suc k) in
    let bit : bit_of (f (k + 0)) ≡ bit_of (f k) = ap (λ j. bit_of (f j)) zero_more in
    omega arith

-- the row before the last one that was taken
pub table-step : (f : ℕ → Bool) (n now table bit : ℕ) → 0 < now → now ≤ n → n ≤ 64 → table ≡ number_by (λ i. f (now + i)) (n - now) → bit ≡ bit_of (f (now - 1)) → (2 * table + bit ≡ number_by (λ i. f ((now - 1) + i)) (n - (now - 1))) × (2 * table + bit < 2 ^ 64)
table-step f n now table bit some few most is last =
    let next : suc (now - 1) ≡ now = omega arith in
    let before : table ≡ number_by (λ i. f (suc (now - 1) + i)) (n - suc (now - 1)) = is ∙ ap (λ j. number_by (λ i. f (j + i)) (n - j)) (sym next) in
    let e = table-next f n (now - 1) (omega arith) in
    let here : 2 * table + bit ≡ number_by (λ i. f ((now - 1) + i)) (n - (now - 1)) = omega arith in
    let h = number_below (λ i. f ((now - 1) + i)) (n - (now - 1)) in
    let m : 2 ^ (n - (now - 1)) ≤ 2 ^ 64 = pow_mono {i = n - (now - 1)} {j = 64} (omega arith) in
    (here, omega arith)

pub table-none : (f : ℕ → Bool) (n now : ℕ) → now ≡ n → 0 ≡ number_by f (n - now)
unfolding number_by
table-none f n now is = let e : n - now ≡ 0 = omega arith in sym (ap (number_by f) e)

pub byte-bit : (b : Bool) → from_bool b ≡ bit_of b
byte-bit true = refl
byte-bit false = refl

-- as many rows as six operands have, at most
pub few_rows : (operands : ℕ) → operands ≤ 6 → 2 ^ operands ≤ 64
few_rows operands few = pow_mono {i = operands} {j = 6} few
