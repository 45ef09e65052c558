-- Digits, and what parsing says of them.
use Rattle.std.proofs.Common.{◌≡◌, ℕ, ◌<◌, ◌^◌, Bool, true, cond, List, [], ◌∷◌, length, Option, Some, None, Result, Ok, Err, refl, sym, ap, ◌∙◌, ltb, arith}
use Rattle.std.specs.Prelude.{◌&&◌}
use Rattle.std.specs.List.{list_all}
use Rattle.std.specs.Result.{result_ok}
use Rattle.std.specs.Char.{is_ascii_digit}
use Rattle.std.specs.Str.{all_ascii_digits}
use Rattle.std.specs.Str.Parse.{digits_value, ParsesUnsigned}
use Rattle.std.proofs.lemmas.Str.Parse.{IsNumeralModel, numerals_by_value, tells_all_ascii_digits, parse_digits}
use Rattle.std.proofs.lemmas.Bool.Decides.{nat_tests}

pub digits_all : (text : List ℕ) → list_all is_ascii_digit text ≡ all_ascii_digits text
digits_all [] = refl
digits_all (c ∷ cs) = ap (λ (b : Bool). is_ascii_digit c && b) (digits_all cs)

pub own : IsNumeralModel (λ ds. all_ascii_digits ds ≡ true) (digits_value 10)
own = numerals_by_value _ tells_all_ascii_digits

-- the value of digits, where there are some and it is below 2 ^ 32
abbrev pub parsed : List ℕ → Option ℕ
parsed ds = cond (ltb 0 (length ds) && ltb (digits_value 10 ds) (2 ^ 32)) (Some (digits_value 10 ds)) None

parsed_some : (ds : List ℕ) → (0 < length ds) × (digits_value 10 ds < 2 ^ 32) → parsed ds ≡ Some (digits_value 10 ds)
parsed_some ds h = grind (arith, nat_tests)

parsed_none : (ds : List ℕ) → ((0 < length ds) × (digits_value 10 ds < 2 ^ 32) → ⊥) → parsed ds ≡ None
parsed_none ds h = grind (arith, nat_tests)

pub parse_is : {E : Type 0} (ds : List ℕ) (r : Result ℕ E) → all_ascii_digits ds ≡ true → ParsesUnsigned 32 10 ds r → result_ok r ≡ parsed ds
parse_is {E = E} ds (Ok x) all h = let p = parse_digits own {E = E} 32 ds (Ok x) h all in ap Some p.1 ∙ sym (parsed_some ds p.0)
parse_is {E = E} ds (Err e) all h = sym (parsed_none ds (parse_digits own {E = E} 32 ds (Err e) h all))
