-- The constant tables of words, checked by computation.
use Rattle.std.proofs.Common.{◌≡◌, ℕ, ◌+◌, ◌^◌, ◌/◌, ◌<◌, ◌≤◌, Bool, true, false, List, [], ◌∷◌, length, refl, ◌∙◌, ap, arith, ◌==◌, suc, zero, get_or, inl, inr, add-zero, lit≤, bit_and, eqb, zero-add, nat_lt}
use mathlib.Core.Bool.{◌&&◌}
use Rattle.std.proofs.lemmas.Bool.{cases_lt, agree_below, agree_below_at, and_parts, eqb-true}
use Rattle.std.proofs.lemmas.Nat.{pow_below}
use Rattle.std.proofs.lemmas.Nat.Bits.{shr_and_one, bit_at-zero}
use Rattle.std.proofs.lemmas.List.{get_or_past}
use Rattle.lnet_tables.specs.Bits.{is_set}
use Rattle.lnet_tables.specs.Words.{word_bit}
use Rattle.lnet_tables.specs.declared.masks.TheConstants.{ONES, VARIABLES}

unfoldable pub words_agree : (ℕ → ℕ → Bool) → ℕ → List (List ℕ) → Bool
words_agree want i [] = true
words_agree want i (ws ∷ all) = (length ws == 16) && (agree_below (word_bit ws) (want i) 1024 && words_agree want (i + 1) all)

pub agree_at : (want : ℕ → ℕ → Bool) (i : ℕ) (all : List (List ℕ)) → words_agree want i all ≡ true
    → (v : ℕ) → v < length all → (d : List ℕ) (r : ℕ) → r < 1024 → word_bit (get_or all v d) r ≡ want (i + v) r
unfolding words_agree
agree_at want i [] h v lt d r below = absurd (omega arith)
agree_at want i (ws ∷ all) h zero lt d r below =
    rw add-zero (agree_below_at (word_bit ws) (want i) 1024 r (and_parts _ _ (and_parts _ _ h).1).0 below)
agree_at want i (ws ∷ all) h (suc v) lt d r below =
    let e : (i + 1) + v ≡ i + suc v = omega arith in
    agree_at want (i + 1) all (and_parts _ _ (and_parts _ _ h).1).1 v (omega arith) d r below ∙ ap (λ n. want n r) e

pub long_at : (want : ℕ → ℕ → Bool) (i : ℕ) (all : List (List ℕ)) → words_agree want i all ≡ true
    → (v : ℕ) → v < length all → (d : List ℕ) → length (get_or all v d) ≡ 16
unfolding words_agree
long_at want i [] h v lt d = absurd (omega arith)
long_at want i (ws ∷ all) h zero lt d = eqb-true _ _ (and_parts _ _ h).0
long_at want i (ws ∷ all) h (suc v) lt d = long_at want (i + 1) all (and_parts _ _ (and_parts _ _ h).1).1 v (omega arith) d

pub past_end : (ws : List ℕ) → length ws ≡ 16 → (r : ℕ) → 1024 ≤ r → word_bit ws r ≡ false
unfolding word_bit is_set
past_end ws long r ge = rw (get_or_past ws (r / 64) 0 (omega (arith, long)), bit_at-zero) refl

pub pow_within : (i j : ℕ) → i ≤ j → 2 ^ i ≤ 2 ^ j
pow_within i j h =
    elim (cases_lt i j) [
      | inl lt ↦ omega (arith, pow_below i j lt)
      | inr ge ↦ let e : i ≡ j = omega arith in rw e (omega arith)
    ]

pub few_rows : (n : ℕ) → n ≤ 10 → 2 ^ n ≤ 1024
few_rows n h =
    elim (cases_lt n 10) [
      | inl lt ↦ omega (arith, pow_below n 10 lt)
      | inr ge ↦ let e : n ≡ 10 = omega arith in rw e (lit≤ tt)
    ]

-- the code's test of a bit
pub test_bit : (n i : ℕ) → eqb (bit_and (n / 2 ^ i) 1) 1 ≡ is_set n i
unfolding is_set
test_bit n i = rw shr_and_one refl

pub agree : (want : ℕ → ℕ → Bool) (all : List (List ℕ)) → words_agree want 0 all ≡ true
    → (v : ℕ) → v < length all → (d : List ℕ) (r : ℕ) → r < 1024 → word_bit (get_or all v d) r ≡ want v r
agree want all h v lt d r below = agree_at want 0 all h v lt d r below ∙ ap (λ n. want n r) (zero-add v)

pub ones_agree : words_agree (λ v r. nat_lt r (2 ^ v)) 0 ONES ≡ true
unfolding words_agree word_bit is_set
ones_agree = refl

pub variables_agree : words_agree (λ i r. is_set r i) 0 VARIABLES ≡ true
unfolding words_agree word_bit is_set
variables_agree = refl
