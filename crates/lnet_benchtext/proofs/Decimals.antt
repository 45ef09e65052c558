-- The bytes of made names, and hexadecimal digits read back.
use Rattle.std.proofs.Common.{◌≡◌, ℕ, zero, suc, ◌+◌, ◌*◌, ◌/◌, ◌%◌, ◌^◌, ◌<◌, Bool, true, false, cond, eqb, List, [], ◌∷◌, ◌++◌, length, refl, sym, ap, ◌∙◌, arith}
use Rattle.std.specs.Prelude.{nat_lt}
use Rattle.std.specs.Char.{digit_value, is_ascii_hexdigit}
use Rattle.std.specs.Fmt.{digits, digits_onto, digit_glyph, decimal}
use Rattle.std.specs.List.{list_all}
use Rattle.std.specs.Str.Parse.{digits_value, digits_value_after}
use Rattle.std.proofs.Math.Nat.{div-div-eq-div-mul, div-eq_of_lt, pow-suc}
use Rattle.std.proofs.lemmas.Bool.Decides.{nat_tests}
use Rattle.std.proofs.lemmas.Fmt.{hex_one_digit}
use Rattle.lnet_bench.specs.Statements.{is_name_byte, is_name}
use Rattle.lnet_naming.specs.Settling.{made_name}
use Rattle.lnet_tables.specs.Digits.{hex_digits}
use Rattle.lnet_benchtext.proofs.Cutting.{true_both, some_bytes}

glyph_name : (d : ℕ) → d < 10 → is_name_byte (digit_glyph false d) ≡ true
glyph_name d low = grind (arith, nat_tests)

onto_all : (p : ℕ → Bool) → ((d : ℕ) → d < 10 → p (digit_glyph false d) ≡ true) → (k n : ℕ) (bs : List ℕ) → list_all p bs ≡ true → list_all p (digits_onto k 10 false n bs) ≡ true
onto_all p each zero n bs all = all
onto_all p each (suc k) n bs all =
    let one = true_both (p (digit_glyph false (n % 10))) (list_all p bs) (each (n % 10) (omega arith)) all in
    elim (eqb (n / 10) 0) as (λ b. list_all p (cond b (digit_glyph false (n % 10) ∷ bs) (digits_onto k 10 false (n / 10) (digit_glyph false (n % 10) ∷ bs))) ≡ true) [
      | true ↦ one
      | false ↦ onto_all p each k (n / 10) (digit_glyph false (n % 10) ∷ bs) one
    ]

-- a test that each digit passes
pub decimal-all : (p : ℕ → Bool) → ((d : ℕ) → d < 10 → p (digit_glyph false d) ≡ true) → (n : ℕ) → list_all p (decimal n) ≡ true
unfolding digits
decimal-all p each n = onto_all p each 64 n [] refl

pub made_name-is : (letter n : ℕ) → is_name_byte letter ≡ true → is_name (made_name letter n) ≡ true
made_name-is letter n is = true_both (nat_lt 0 (length (made_name letter n))) (list_all is_name_byte (made_name letter n)) (some_bytes 95 (letter ∷ decimal n)) (true_both (is_name_byte letter) (list_all is_name_byte (decimal n)) is (decimal-all is_name_byte glyph_name n))

-- ---- hexadecimal digits

hex_value : (d : ℕ) → d < 16 → digit_value (digit_glyph false d) ≡ d
hex_value d low = grind (arith, nat_tests)

hex_digit : (d : ℕ) → d < 16 → is_ascii_hexdigit (digit_glyph false d) ≡ true
hex_digit d low = grind (arith, nat_tests)

hex_name : (d : ℕ) → d < 16 → is_name_byte (digit_glyph false d) ≡ true
hex_name d low = grind (arith, nat_tests)

hex_digits-suc : (k t : ℕ) → hex_digits (suc k) t ≡ digit_glyph false ((t / 16 ^ k) % 16) ∷ hex_digits k t
hex_digits-suc k t = ap (λ (ds : List ℕ). ds ++ hex_digits k t) (hex_one_digit false ((t / 16 ^ k) % 16) (omega arith))

pub length-hex_digits : (k t : ℕ) → length (hex_digits k t) ≡ k
length-hex_digits zero t = refl
length-hex_digits (suc k) t = ap length (hex_digits-suc k t) ∙ ap suc (length-hex_digits k t)

pub hex_digits-all : (p : ℕ → Bool) → ((d : ℕ) → d < 16 → p (digit_glyph false d) ≡ true) → (k t : ℕ) → list_all p (hex_digits k t) ≡ true
hex_digits-all p each zero t = refl
hex_digits-all p each (suc k) t = ap (list_all p) (hex_digits-suc k t) ∙ true_both (p (digit_glyph false ((t / 16 ^ k) % 16))) (list_all p (hex_digits k t)) (each ((t / 16 ^ k) % 16) (omega arith)) (hex_digits-all p each k t)

pub hex_digits-hex : (k t : ℕ) → list_all is_ascii_hexdigit (hex_digits k t) ≡ true
hex_digits-hex = hex_digits-all is_ascii_hexdigit hex_digit

pub hex_digits-names : (k t : ℕ) → list_all is_name_byte (hex_digits k t) ≡ true
hex_digits-names = hex_digits-all is_name_byte hex_name

rejoined : (q : ℕ) → (q / 16) * 16 + q % 16 ≡ q
rejoined q = omega arith

-- the digits behind those of the higher rows
value_behind : (k t : ℕ) → digits_value_after 16 (t / 16 ^ k) (hex_digits k t) ≡ t
value_behind zero t = omega arith
value_behind (suc k) t =
    let q = t / 16 ^ k in
    let higher : t / 16 ^ suc k ≡ q / 16 = sym (div-div-eq-div-mul t (16 ^ k) 16 ∙ ap (λ (n : ℕ). t / n) (sym (pow-suc 16 k))) in
    let digit = hex_value (q % 16) (omega arith) in
    let onto : (t / 16 ^ suc k) * 16 + digit_value (digit_glyph false (q % 16)) ≡ q = ap (λ (n : ℕ). n * 16 + digit_value (digit_glyph false (q % 16))) higher ∙ ap (λ (d : ℕ). (q / 16) * 16 + d) digit ∙ rejoined q in
    ap (digits_value_after 16 (t / 16 ^ suc k)) (hex_digits-suc k t)
    ∙ ap (λ (n : ℕ). digits_value_after 16 n (hex_digits k t)) onto
    ∙ value_behind k t

pub digits_value-hex : (k t : ℕ) → t < 16 ^ k → digits_value 16 (hex_digits k t) ≡ t
digits_value-hex k t small = ap (λ (n : ℕ). digits_value_after 16 n (hex_digits k t)) (sym (div-eq_of_lt small)) ∙ value_behind k t
