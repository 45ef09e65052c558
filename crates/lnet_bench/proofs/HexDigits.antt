-- Hexadecimal digits, and the number that std reads of them.
use Rattle.std.proofs.Common.{◌≡◌, ℕ, zero, suc, ◌<◌, ◌≤◌, ◌^◌, Bool, true, false, eqb, ltb, List, [], ◌∷◌, length, Some, Result, Ok, Err, refl, ap, arith}
use Rattle.std.specs.Prelude.{◌&&◌, nat_lt, nat_le}
use Rattle.std.specs.Char.{is_ascii_hexdigit, digit_value}
use Rattle.std.specs.List.{list_all}
use Rattle.std.specs.Result.{result_ok, OkIff}
use Rattle.std.specs.Str.{IsAscii}
use Rattle.std.specs.Str.Parse.{digits_value, AllDigits, IsNumeral, ParsesUnsigned, without_leading_plus}
use Rattle.std.proofs.lemmas.Bool.Decides.{nat_tests}
use Rattle.lnet_bench.specs.Gates.{is_table, table_of}

both_true : (a b : Bool) → (a && b) ≡ true → (a ≡ true) × (b ≡ true)
both_true true b e = (refl, e)
both_true false b e = absurd cc

digit_below : (c : ℕ) → is_ascii_hexdigit c ≡ true → digit_value c < 16
digit_below c h = grind (arith, nat_tests)

digit_ascii : (c : ℕ) → is_ascii_hexdigit c ≡ true → c < 128
digit_ascii c h = grind (arith, nat_tests)

no_plus : (c : ℕ) → is_ascii_hexdigit c ≡ true → eqb c 43 ≡ false
no_plus c h = grind (arith, nat_tests)

all_digits : (ds : List ℕ) → list_all is_ascii_hexdigit ds ≡ true → AllDigits 16 ds
all_digits [] h = tt
all_digits (c ∷ cs) h = let t = both_true (is_ascii_hexdigit c) (list_all is_ascii_hexdigit cs) h in (digit_below c t.0, all_digits cs t.1)

pub digits_ascii : (ds : List ℕ) → list_all is_ascii_hexdigit ds ≡ true → IsAscii ds
digits_ascii [] h zero = omega arith
digits_ascii [] h (suc i) = omega arith
digits_ascii (c ∷ cs) h zero = digit_ascii c (both_true (is_ascii_hexdigit c) (list_all is_ascii_hexdigit cs) h).0
digits_ascii (c ∷ cs) h (suc i) = digits_ascii cs (both_true (is_ascii_hexdigit c) (list_all is_ascii_hexdigit cs) h).1 i

unsigned : (ds : List ℕ) → list_all is_ascii_hexdigit ds ≡ true → without_leading_plus ds ≡ ds
unsigned [] h = refl
unsigned (c ∷ cs) h = rw (no_plus c (both_true (is_ascii_hexdigit c) (list_all is_ascii_hexdigit cs) h).0) refl

-- the table that std's number is
by_result : {E : Type 0} (ds : List ℕ) (r : Result ℕ E) → is_table ds ≡ true → 0 < length ds → AllDigits 16 ds → OkIff r (IsNumeral 16 ds × (digits_value 16 ds < 2 ^ 64)) (digits_value 16 ds) → result_ok r ≡ table_of ds
unfolding table_of
by_result ds (Ok x) is some all h = let t : ltb (digits_value 16 ds) (2 ^ 64) ≡ true = let small = h.0.1 in grind (arith, nat_tests) in rw (is, t) (ap Some h.1)
by_result ds (Err e) is some all h = let t : ltb (digits_value 16 ds) (2 ^ 64) ≡ false = no_less (λ small. h ((some, all), small)) in rw (is, t) refl where
  no_less : {n m : ℕ} → (n < m → ⊥) → ltb n m ≡ false
  no_less h = grind (arith, nat_tests)

pub table_read : {E : Type 0} (ds : List ℕ) (r : Result ℕ E) → is_table ds ≡ true → ParsesUnsigned 64 16 ds r → result_ok r ≡ table_of ds
table_read ds r is parsed =
    let t = both_true (nat_lt 0 (length ds) && nat_le (length ds) 16) (list_all is_ascii_hexdigit ds) is in
    let some : 0 < length ds = grind (arith, nat_tests) in
    by_result ds r is some (all_digits ds t.1) (rw (unsigned ds t.1) at parsed)

pub table_by : (ds : List ℕ) → eqb (length ds) 0 ≡ false → length ds ≤ 16 → list_all is_ascii_hexdigit ds ≡ true → is_table ds ≡ true
table_by ds some short all = grind (arith, nat_tests)
