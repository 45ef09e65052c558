-- Rows from the last operand back.
use Rattle.std.proofs.Common.{◌≡◌, ℕ, suc, ◌+◌, ◌-◌, ◌*◌, ◌^◌, ◌<◌, ◌≤◌, Bool, true, false, List, ◌∷◌, length, drop, get_or, refl, ap, ◌∙◌, arith}
use Rattle.std.specs.Prelude.{if◌then◌else◌}
use Rattle.std.specs.Int.{from_bool}
use Rattle.std.proofs.Math.Seq.{drop-cons}
use lib.Pow.{pow_mono}
use native.Mathlib.Numerals.{unary_clauses}
use Rattle.lnet_edge.specs.Values.{row_number}

-- ---- rows

pow_more : (k : ℕ) → 2 ^ suc k ≡ 2 * 2 ^ k
pow_more k = simp unary_clauses (omega arith)

-- an operand before the last one that was taken
pub row-step : (values : List Bool) (now number bit : ℕ) → 0 < now → now ≤ length values → number ≡ row_number (drop now values) → bit ≡ from_bool (get_or values (now - 1) false) → number < 2 ^ (length values - now) → (2 * number + bit ≡ row_number (drop (now - 1) values)) × (2 * number + bit < 2 ^ (length values - (now - 1)))
row-step values now number bit some low is last small =
    let next : suc (now - 1) ≡ now = omega arith in
    let cut : drop (now - 1) values ≡ get_or values (now - 1) false ∷ drop now values = drop-cons values (now - 1) false (omega arith) ∙ ap (λ k. get_or values (now - 1) false ∷ drop k values) next in
    let first : row_number (drop (now - 1) values) ≡ from_bool (get_or values (now - 1) false) + 2 * row_number (drop now values) = ap row_number cut ∙ by_bit (get_or values (now - 1) false) (row_number (drop now values)) in
    let count : length values - (now - 1) ≡ suc (length values - now) = omega arith in
    let double : 2 ^ (length values - (now - 1)) ≡ 2 * 2 ^ (length values - now) = ap (λ k. 2 ^ k) count ∙ pow_more (length values - now) in
    let b = bit_small (get_or values (now - 1) false) in
    (omega arith, omega arith)
  where
    by_bit : (b : Bool) (n : ℕ) → (if b then 1 else 0) + 2 * n ≡ from_bool b + 2 * n
    by_bit true n = refl
    by_bit false n = refl

    bit_small : (b : Bool) → from_bool b ≤ 1
    bit_small true = omega arith
    bit_small false = omega arith

pub row-few : (n number i : ℕ) → n ≤ 6 → i ≡ 0 → number < 2 ^ (n - i) → number < 64
row-few n number i few is small = let m : 2 ^ (n - i) ≤ 2 ^ 6 = pow_mono {i = n - i} {j = 6} (omega arith) in omega arith
