-- Names that were kept, and the bytes of made names.
use Rattle.std.proofs.Common.{◌≡◌, ℕ, ◌<◌, ◌≤◌, ◌^◌, Bool, true, false, List, [], ◌∷◌, refl, sym, ap, ◌∙◌, arith}
use Rattle.std.specs.Prelude.{map, not, ◌||◌, ◌&&◌}
use Rattle.std.specs.Char.{is_ascii_digit}
use Rattle.std.specs.Fmt.{decimal}
use Rattle.std.specs.List.{list_any, AllByRecursion}
use Rattle.std.specs.Str.{bytes_eq, all_ascii_digits}
use Rattle.std.specs.Str.Parse.{digits_value}
use Rattle.std.proofs.lemmas.Str.Parse.{IsNumeralModel, numerals_by_value, tells_all_ascii_digits}
use Rattle.std.proofs.lemmas.Fmt.{digits_decimal}
use Rattle.std.proofs.lemmas.Bool.Decides.{nat_tests}
use Rattle.lnet_edge.specs.Names.{IsName}
use Rattle.lnet_wires.specs.Naming.{is_seen}
use Rattle.lnet_naming.specs.declared.settling.Side.{Side}
use Rattle.lnet_naming.specs.declared.settling.Side.TheVariants.{Input, Output}
use Rattle.lnet_naming.specs.Settling.{letter_of, made_name}

any-map : {X : Type 0} (f : X → List ℕ) (p : List ℕ → Bool) (ks : List X) → list_any p (map f ks) ≡ list_any (λ k. p (f k)) ks
any-map f p [] = refl
any-map f p (k ∷ ks) = ap (λ (b : Bool). p (f k) || b) (any-map f p ks)

pub fresh_by : {X : Type 0} (f : X → List ℕ) (x : X) (ks : List X) (names : List (List ℕ)) → map f ks ≡ names → not (list_any (λ k. bytes_eq (f x) (f k)) ks) ≡ not (is_seen names (f x))
fresh_by f x ks names e = ap not (sym (any-map f (bytes_eq (f x)) ks)) ∙ ap (λ (ns : List (List ℕ)). not (is_seen ns (f x))) e

own : IsNumeralModel (λ ds. all_ascii_digits ds ≡ true) (digits_value 10)
own = numerals_by_value _ tells_all_ascii_digits

both_true : (a b : Bool) → (a && b) ≡ true → (a ≡ true) × (b ≡ true)
both_true true b e = (refl, e)
both_true false b e = absurd cc

digit_printable : (c : ℕ) → is_ascii_digit c ≡ true → (32 ≤ c) × (c ≤ 126)
digit_printable c e = (grind (arith, nat_tests), grind (arith, nat_tests))

digits_printable : (ds : List ℕ) → all_ascii_digits ds ≡ true → AllByRecursion (λ b. (32 ≤ b) × (b ≤ 126)) ds
digits_printable [] e = tt
digits_printable (c ∷ cs) e = let t = both_true (is_ascii_digit c) (all_ascii_digits cs) e in (digit_printable c t.0, digits_printable cs t.1)

pub made_is : (letter number : ℕ) → 97 ≤ letter → letter ≤ 122 → number < 2 ^ 64 → IsName (made_name letter number)
made_is letter number low high small = record { some = omega arith; printable = ((omega arith, omega arith), ((omega arith, omega arith), digits_printable (decimal number) (digits_decimal own number small))) }

pub side_is : (side : Side) (number : ℕ) → number < 2 ^ 64 → IsName (made_name (letter_of side) number)
side_is Input number small = made_is 105 number (omega arith) (omega arith) small
side_is Output number small = made_is 111 number (omega arith) (omega arith) small
