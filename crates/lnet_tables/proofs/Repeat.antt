-- Rows repeated: a row with one bit cleared, modulo a lower power of two.
use Rattle.std.proofs.Common.{◌≡◌, ℕ, ◌+◌, ◌-◌, ◌*◌, ◌^◌, ◌/◌, ◌%◌, ◌<◌, ◌≤◌, false, sym, ◌∙◌, ap, arith}
use Rattle.std.specs.Int.{bit_at}
use Rattle.std.proofs.lemmas.Nat.{pow-add, pow_pos, div-add-mod', div_below, mod_below, mod_low}
use Rattle.std.proofs.Math.Nat.{add-mul-mod_self_right, mul_assoc}
use Rattle.lnet_tables.specs.Bits.{with_bit}
use Rattle.lnet_tables.proofs.RowNumbers.{bit_within}

pub cleared_below : (b i : ℕ) → b < 2 ^ (i + 1) → with_bit b i false < 2 ^ i
unfolding with_bit
cleared_below b i h =
    let p : 2 ^ (i + 1) ≡ 2 * 2 ^ i = pow-add 2 i 1 ∙ omega arith in
    let q : b / 2 ^ i < 2 = div_below b (2 ^ i) 2 (pow_pos i) (omega arith) in
    let e : bit_at b i ≡ b / 2 ^ i = omega arith in
    let m : b % 2 ^ i < 2 ^ i = mod_below b (2 ^ i) (pow_pos i) in
    rw e (omega (arith, div-add-mod' b (2 ^ i)))

pub cleared_mod : (b i f : ℕ) → f ≤ i → with_bit b i false % 2 ^ f ≡ b % 2 ^ f
unfolding with_bit
cleared_mod b i f h =
    let t : ℕ = bit_at b i * 2 ^ (i - f) in
    let n : i ≡ (i - f) + f = omega arith in
    let p : 2 ^ i ≡ 2 ^ (i - f) * 2 ^ f = ap (λ k. 2 ^ k) n ∙ pow-add 2 (i - f) f in
    let e : bit_at b i * 2 ^ i ≡ bit_at b i * 2 ^ (i - f) * 2 ^ f = ap (λ k. bit_at b i * k) p ∙ sym (mul_assoc (bit_at b i) (2 ^ (i - f)) (2 ^ f)) in
    let w : bit_at b i * 2 ^ i ≤ b = bit_within b i in
    let s : (b - bit_at b i * 2 ^ i) + bit_at b i * 2 ^ (i - f) * 2 ^ f ≡ b = rw (← e) (omega arith) in
    let z : (b - bit_at b i * 2 ^ i) + 0 * 2 ^ i ≡ b - bit_at b i * 2 ^ i = omega arith in
    ap (λ k. k % 2 ^ f) z ∙ sym (add-mul-mod_self_right (b - bit_at b i * 2 ^ i) (bit_at b i * 2 ^ (i - f)) (2 ^ f)) ∙ ap (λ k. k % 2 ^ f) s

pub small_mod : (b f : ℕ) → b < 2 ^ f → b % 2 ^ f ≡ b
small_mod b f h =
    let e : 0 * 2 ^ f + b ≡ b = omega arith in
    ap (λ k. k % 2 ^ f) (sym e) ∙ mod_low 0 f b h
