-- Sixteen words are those that their rows give back.
use Rattle.std.proofs.Common.{◌≡◌, ℕ, ◌+◌, ◌*◌, ◌^◌, ◌/◌, ◌%◌, ◌<◌, ◌≤◌, Bool, true, false, List, refl, sym, ◌∙◌, ap, arith, ◌==◌, suc, zero, get_or, add-one, inl, inr}
use Rattle.std.specs.Int.{bit_at}
use Rattle.std.proofs.lemmas.Nat.Bits.{bit_at-suc, bit_at_lowest, bit_at-lt, bit_at-zero, bit_at_above, same_from_bits}
use Rattle.std.proofs.lemmas.List.FromFn.{get_or-map-range_with_len, length-map-range_with_len, fill_by_all}
use Rattle.std.proofs.lemmas.List.{get_or_past}
use Rattle.std.proofs.lemmas.Bool.{cases_lt}
use Rattle.lnet_tables.specs.Bits.{number_by, tabulate, row, bit_of, by_rows, is_set}
use Rattle.lnet_tables.specs.Words.{word_bit, Fit, word_of, words_of}

-- a row of a table that is given by its rows
pub row_inside : (n : ℕ) (f : ℕ → Bool) (r : ℕ) → r < 2 ^ n → row (by_rows n f) r ≡ f r
unfolding tabulate
row_inside n f r h = get_or-map-range_with_len f 0 (2 ^ n) r r false h (omega arith)

pub row_outside : (n : ℕ) (f : ℕ → Bool) (r : ℕ) → 2 ^ n ≤ r → row (by_rows n f) r ≡ false
unfolding tabulate
row_outside n f r h = get_or_past (tabulate f (2 ^ n)) r false (omega (arith, length-map-range_with_len f 0 (2 ^ n)))

bit_half : (b : Bool) (x : ℕ) → (bit_of b + 2 * x) / 2 ≡ x
bit_half true x = omega arith
bit_half false x = omega arith

bit_low : (b : Bool) (x : ℕ) → (bit_of b + 2 * x) % 2 ≡ bit_of b
bit_low true x = omega arith
bit_low false x = omega arith

-- bit i of a number that is given by its bits
pub bit_inside : (f : ℕ → Bool) (n i : ℕ) → i < n → bit_at (number_by f n) i ≡ bit_of (f i)
unfolding number_by
bit_inside f zero i h = absurd (omega arith)
bit_inside f (suc n) zero h = bit_at_lowest _ ∙ bit_low (f 0) (number_by (λ i. f (i + 1)) n)
bit_inside f (suc n) (suc i) h =
    bit_at-suc _ i ∙ ap (λ x. bit_at x i) (bit_half (f 0) (number_by (λ i. f (i + 1)) n)) ∙ bit_inside (λ i. f (i + 1)) n i (omega arith) ∙ rw add-one refl

pub bit_outside : (f : ℕ → Bool) (n i : ℕ) → n ≤ i → bit_at (number_by f n) i ≡ 0
unfolding number_by
bit_outside f zero i h = bit_at-zero i
bit_outside f (suc n) zero h = absurd (omega arith)
bit_outside f (suc n) (suc i) h =
    bit_at-suc _ i ∙ ap (λ x. bit_at x i) (bit_half (f 0) (number_by (λ i. f (i + 1)) n)) ∙ bit_outside (λ i. f (i + 1)) n i (omega arith)

-- a bit as a Bool, and back
set_cases : (b : ℕ) → b < 2 → bit_of (b == 1) ≡ b
set_cases zero h = refl
set_cases (suc zero) h = refl
set_cases (suc (suc n)) h = absurd (omega arith)

pub bit_of_set : (n i : ℕ) → bit_of (is_set n i) ≡ bit_at n i
unfolding is_set
bit_of_set n i = set_cases (bit_at n i) (bit_at-lt n i)

-- every row of the view, those past the end too
pub any_row : (vars : ℕ) (ws : List ℕ) → Fit vars ws → (r : ℕ) → row (by_rows vars (word_bit ws)) r ≡ word_bit ws r
any_row vars ws h r =
    elim (cases_lt r (2 ^ vars)) [ inl lt ↦ row_inside vars (word_bit ws) r lt | inr ge ↦ row_outside vars (word_bit ws) r ge ∙ sym (h.clear r ge) ]

pub word_place : (ws : List ℕ) (k i : ℕ) → i < 64 → word_bit ws (64 * k + i) ≡ is_set (get_or ws k 0) i
unfolding word_bit
word_place ws k i lt =
    let d : (64 * k + i) / 64 ≡ k = omega arith in
    let m : (64 * k + i) % 64 ≡ i = omega arith in
    rw (d, m) refl

pub same_word : (vars : ℕ) (ws : List ℕ) → Fit vars ws → (k : ℕ) → word_of (by_rows vars (word_bit ws)) k ≡ get_or ws k 0
same_word vars ws h k =
    same_from_bits _ _ (λ i. elim (cases_lt i 64) [
      | inl lt ↦ bit_inside _ 64 i lt ∙ ap bit_of (any_row vars ws h (64 * k + i) ∙ word_place ws k i lt) ∙ bit_of_set _ i
      | inr ge ↦ bit_outside _ 64 i ge ∙ sym (bit_at_above (get_or ws k 0) 64 i (h.words k) ge)
    ])

pub same_words : (vars : ℕ) (ws : List ℕ) → Fit vars ws → words_of (by_rows vars (word_bit ws)) ≡ ws
unfolding words_of
same_words vars ws h = sym (fill_by_all (word_of (by_rows vars (word_bit ws))) ws 16 0 h.sixteen (λ k lt. sym (same_word vars ws h k)))
