-- The bytes of names.
use Rattle.std.proofs.Common.{◌≡◌, ℕ, zero, suc, ◌≤◌, Bool, true, false, refl, List, [], ◌∷◌, arith}
use Rattle.std.specs.Prelude.{◌&&◌}
use Rattle.std.specs.List.{AllByRecursion, list_all}
use Rattle.std.specs.Str.{IsAscii}
use Rattle.std.proofs.lemmas.Bool.Decides.{nat_tests}
use Rattle.lnet_edge.specs.Names.{IsName}
use Rattle.lnet_bliflines.specs.Words.{is_word_byte, is_word}

pub both_true : (a b : Bool) → (a && b) ≡ true → (a ≡ true) × (b ≡ true)
both_true true b e = (refl, e)
both_true false b e = absurd cc

printable : (b : ℕ) → is_word_byte b ≡ true → (32 ≤ b) × (b ≤ 126)
printable b e = (grind (arith, nat_tests), grind (arith, nat_tests))

all_printable : (bs : List ℕ) → list_all is_word_byte bs ≡ true → AllByRecursion (λ b. (32 ≤ b) × (b ≤ 126)) bs
all_printable [] e = tt
all_printable (c ∷ cs) e = let t = both_true (is_word_byte c) (list_all is_word_byte cs) e in (printable c t.0, all_printable cs t.1)

pub name_is : (bs : List ℕ) → is_word bs ≡ true → IsName bs
name_is bs e = record { some = grind (arith, nat_tests); printable = all_printable bs (both_true _ _ e).1 }

ascii_of : (bs : List ℕ) → AllByRecursion (λ b. (32 ≤ b) × (b ≤ 126)) bs → IsAscii bs
ascii_of [] all zero = omega arith
ascii_of [] all (suc i) = omega arith
ascii_of (b ∷ bs) all zero = omega (arith, all.0)
ascii_of (b ∷ bs) all (suc i) = ascii_of bs all.1 i

pub name_ascii : (bs : List ℕ) → is_word bs ≡ true → IsAscii bs
name_ascii bs e = ascii_of bs (name_is bs e).printable
