-- Cubes without one of their literals.
use Rattle.std.proofs.Common.{◌≡◌, ℕ, ◌+◌, ◌-◌, ◌*◌, ◌%◌, ◌^◌, ◌<◌, ◌≤◌, Bool, true, false, refl, ◌∙◌, ap, arith}
use Rattle.std.specs.Int.{bit_at}
use Rattle.std.proofs.lemmas.Nat.Bits.{bit_at_cat_low, bit_at_cat_high, bit_at_lowest}
use Rattle.lnet_tables.specs.Bits.{bit_of, with_bit}
use Rattle.lnet_tables.proofs.RowNumbers.{bit_within}
use Rattle.lnet_sop.specs.declared.cover.Cube.{Cube}
use Rattle.lnet_sop.specs.Isop.{with_literal}
use Rattle.lnet_sop.specs.Irredundant.{without}

pub same_cube : (a b c d : ℕ) → a ≡ b → c ≡ d → (let x : Cube = record { care = a; value = c } in x) ≡ record { care = b; value = d }
same_cube a b c d e f = ap (λ (k : ℕ). let x : Cube = record { care = k; value = c } in x) e ∙ ap (λ (k : ℕ). let x : Cube = record { care = b; value = k } in x) f

pub cleared_le : (k i : ℕ) → with_bit k i false ≤ k
unfolding with_bit
cleared_le k i = omega arith

cleared_low : (a n y i : ℕ) → i < n → with_bit (a * 2 ^ n + y) i false ≡ a * 2 ^ n + with_bit y i false
unfolding with_bit
cleared_low a n y i lt =
    ap (λ k. (a * 2 ^ n + y - k * 2 ^ i) + 0 * 2 ^ i) (bit_at_cat_low a n y i lt) ∙ omega (arith, bit_within y i)

bit_low : (v : Bool) → bit_of v % 2 ≡ bit_of v
bit_low true = refl
bit_low false = refl

-- the last bit set to a value
pub put_here : (p v : Bool) (n y : ℕ) → y < 2 ^ n → with_bit (bit_of p * 2 ^ n + y) n v ≡ bit_of v * 2 ^ n + y
unfolding with_bit
put_here p v n y lt =
    let z : n - n ≡ 0 = omega arith in
    let e : bit_at (bit_of p * 2 ^ n + y) n ≡ bit_of p =
    bit_at_cat_high (bit_of p) n y n lt (omega arith) ∙ ap (λ i. bit_at (bit_of p) i) z ∙ bit_at_lowest (bit_of p) ∙ bit_low p in
    ap (λ k. (bit_of p * 2 ^ n + y - k * 2 ^ n) + bit_of v * 2 ^ n) e ∙ omega arith

cleared_here : (p : Bool) (n y : ℕ) → y < 2 ^ n → with_bit (bit_of p * 2 ^ n + y) n false ≡ y
cleared_here p n y lt = put_here p false n y lt ∙ omega arith

-- another literal than the last one
pub without_with : (n i : ℕ) (p : Bool) (c : Cube) → i < n → without i (with_literal n p c) ≡ with_literal n p (without i c)
without_with n i p c lt =
    let e : 2 ^ n + c.care ≡ 1 * 2 ^ n + c.care = omega arith in
    same_cube (with_bit (2 ^ n + c.care) i false) (2 ^ n + with_bit c.care i false) (with_bit (bit_of p * 2 ^ n + c.value) i false) (bit_of p * 2 ^ n + with_bit c.value i false)
    (ap (λ k. with_bit k i false) e ∙ cleared_low 1 n c.care i lt ∙ omega arith) (cleared_low (bit_of p) n c.value i lt)

-- the last one
pub without_last : (n : ℕ) (p : Bool) (c : Cube) → c.care < 2 ^ n → c.value < 2 ^ n → without n (with_literal n p c) ≡ c
without_last n p c care value =
    let e : 2 ^ n + c.care ≡ bit_of true * 2 ^ n + c.care = omega arith in
    same_cube (with_bit (2 ^ n + c.care) n false) c.care (with_bit (bit_of p * 2 ^ n + c.value) n false) c.value
    (ap (λ k. with_bit k n false) e ∙ cleared_here true n c.care care) (cleared_here p n c.value value)
