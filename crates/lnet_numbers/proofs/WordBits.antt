-- The list of the bits of words: its length, its items, and what one changed bit or further words make of it.
use Rattle.std.proofs.Common.{◌≡◌, ◌≢◌, ℕ, ◌+◌, ◌-◌, ◌*◌, ◌/◌, ◌%◌, ◌^◌, ◌<◌, ◌≤◌, Bool, true, false, List, []}
use Rattle.std.proofs.Common.{◌++◌, length, replicate, get_or, set, refl, sym, ◌∙◌, ap, subst, arith, ◌==◌, inl, inr, bit_and, bit_or, w64}
use Rattle.std.specs.Int.{bit_at, trailing_zeros}
use Rattle.std.proofs.lemmas.Bool.{cases_lt, cases_eq}
use Rattle.std.proofs.lemmas.List.{get_or_past, get_or-set_same, get_or-set_other, length-set, length-append, length-replicate, ext_get_or}
use Rattle.std.proofs.lemmas.List.FromFn.{length-map-range_with_len, get_or-map-range_with_len}
use Rattle.std.proofs.lemmas.Nat.Bits.{bit_at-zero, shr_and_one, bit_at_set_same, bit_at_set_other, bit_at_clear_same, bit_at_clear_other, bit_at-trailing_zeros}
use Rattle.lnet_numbers.specs.Bits.{bit_in, bits_of}
use Rattle.lnet_numbers.specs.Words.{bit, IsZeroWord, HasBitIn, IsLowestIn, GainsClearBits}
use Rattle.lnet_numbers.proofs.Padding.{get_or-append_default}

pub length-bits_of : (words : List ℕ) → length (bits_of words) ≡ 64 * length words
unfolding bits_of
length-bits_of words = length-map-range_with_len (bit_in words) 0 (64 * length words)

-- a word of 0 has no set bit
bit_in-zero : (words : List ℕ) (n : ℕ) → get_or words (n / 64) 0 ≡ 0 → bit_in words n ≡ false
unfolding bit_in
bit_in-zero words n zero_word = rw (zero_word, bit_at-zero (n % 64)) refl

pub bit-bits_of : (words : List ℕ) (n : ℕ) → bit (bits_of words) n ≡ bit_in words n
unfolding bits_of
bit-bits_of words n =
    elim (cases_lt n (64 * length words)) [
      | inl inside ↦ get_or-map-range_with_len (bit_in words) 0 (64 * length words) n n false inside (omega arith)
      | inr past ↦
          let beyond : length words ≤ n / 64 = omega arith in
          get_or_past (bits_of words) n false (omega (arith, length-bits_of words)) ∙ sym (bit_in-zero words n (get_or_past words (n / 64) 0 beyond))
    ]

-- the test of a bit that the code makes
pub bit_in-test : (words : List ℕ) (n w : ℕ) → w ≡ get_or words (n / 64) 0 → (bit_and (w / 2 ^ (n % 64)) 1 == 1) ≡ bit (bits_of words) n
unfolding bit_in
bit_in-test words n w is_word = ap (λ k. k == 1) (shr_and_one w (n % 64) ∙ ap (λ k. bit_at k (n % 64)) is_word) ∙ sym (bit-bits_of words n)

-- one word exchanged for one that differs in one bit
bit_in-set : (words : List ℕ) (n x : ℕ) (v : Bool) → n < 64 * length words → (bit_at x (n % 64) == 1) ≡ v →
    ((i : ℕ) → i < 64 → i ≢ n % 64 → bit_at x i ≡ bit_at (get_or words (n / 64) 0) i) → (m : ℕ) →
    bit_in (set words (n / 64) x) m ≡ bit (set (bits_of words) n v) m
unfolding bit_in
bit_in-set words n x v inside here others m =
    let word : n / 64 < length words = omega arith in
    elim (cases_eq m n) [
      | inl same ↦
          subst (λ k. bit_in (set words (n / 64) x) k ≡ bit (set (bits_of words) n v) k) (sym same)
          (ap (λ k. bit_at k (n % 64) == 1) (get_or-set_same words (n / 64) x 0 word) ∙ here ∙ sym (get_or-set_same (bits_of words) n v false (omega (arith, length-bits_of words))))
      | inr other ↦
          let kept : bit (set (bits_of words) n v) m ≡ bit_in words m = get_or-set_other (bits_of words) n m v false other ∙ bit-bits_of words m in
          elim (cases_eq (m / 64) (n / 64)) [
            | inl one ↦
                let apart : m % 64 ≢ n % 64 = λ e. other (omega arith) in
                ap (λ k. bit_at (get_or (set words (n / 64) x) k 0) (m % 64) == 1) one ∙ ap (λ k. bit_at k (m % 64) == 1) (get_or-set_same words (n / 64) x 0 word)
                ∙ ap (λ k. k == 1) (others (m % 64) (omega arith) apart) ∙ ap (λ k. bit_at (get_or words k 0) (m % 64) == 1) (sym one) ∙ sym kept
            | inr two ↦ ap (λ k. bit_at k (m % 64) == 1) (get_or-set_other words (n / 64) (m / 64) x 0 two) ∙ sym kept
          ]
    ]

bits_of-set : (words : List ℕ) (n x : ℕ) (v : Bool) → n < 64 * length words → (bit_at x (n % 64) == 1) ≡ v →
    ((i : ℕ) → i < 64 → i ≢ n % 64 → bit_at x i ≡ bit_at (get_or words (n / 64) 0) i) → bits_of (set words (n / 64) x) ≡ set (bits_of words) n v
bits_of-set words n x v inside here others =
    ext_get_or false (bits_of (set words (n / 64) x)) (set (bits_of words) n v)
    (length-bits_of (set words (n / 64) x) ∙ ap (λ k. 64 * k) (length-set words (n / 64) x) ∙ sym (length-set (bits_of words) n v ∙ length-bits_of words))
    (λ m lt. bit-bits_of (set words (n / 64) x) m ∙ bit_in-set words n x v inside here others m)

-- the word with the bit set, and with it cleared
pub bits_of-set_bit : (words : List ℕ) (n w : ℕ) → n < 64 * length words → w ≡ get_or words (n / 64) 0 →
    bits_of (set words (n / 64) (bit_or w (1 * 2 ^ (n % 64) % 18446744073709551616))) ≡ set (bits_of words) n true
bits_of-set_bit words n w inside is_word =
    let low : n % 64 < 64 = omega arith in
    bits_of-set words n (bit_or w (1 * 2 ^ (n % 64) % 18446744073709551616)) true inside
    (ap (λ k. k == 1) (bit_at_set_same w64 w (n % 64) low))
    (λ i lt other. bit_at_set_other w64 w (n % 64) low i other ∙ ap (λ k. bit_at k i) is_word)

pub bits_of-clear_bit : (words : List ℕ) (n w : ℕ) → n < 64 * length words → w ≡ get_or words (n / 64) 0 →
    bits_of (set words (n / 64) (bit_and w (18446744073709551615 - 1 * 2 ^ (n % 64) % 18446744073709551616))) ≡ set (bits_of words) n false
bits_of-clear_bit words n w inside is_word =
    let low : n % 64 < 64 = omega arith in
    bits_of-set words n (bit_and w (18446744073709551615 - 1 * 2 ^ (n % 64) % 18446744073709551616)) false inside
    (ap (λ k. k == 1) (bit_at_clear_same w64 w (n % 64) low))
    (λ i lt other. bit_at_clear_other w64 w (n % 64) low i lt other ∙ ap (λ k. bit_at k i) is_word)

-- a word of 0, and the lowest bit of one that isn't
pub IsZeroWord-bits_of : (words : List ℕ) (i : ℕ) → get_or words i 0 ≡ 0 → IsZeroWord (bits_of words) i
IsZeroWord-bits_of words i zero_word = λ n inside. bit-bits_of words n ∙ bit_in-zero words n (ap (λ k. get_or words k 0) inside ∙ zero_word)

lowest_in : (words : List ℕ) (i k : ℕ) → k < 64 → bit_at (get_or words i 0) k ≡ 1 → ((j : ℕ) → j < k → bit_at (get_or words i 0) j ≡ 0) → IsLowestIn (bits_of words) i (i * 64 + k)
unfolding bit_in
lowest_in words i k small here under =
    let word : (i * 64 + k) / 64 ≡ i = omega arith in
    let place : (i * 64 + k) % 64 ≡ k = omega arith in
    record {
      inside = word;
      set = bit-bits_of words (i * 64 + k) ∙ rw (word, place, here) refl;
      below = λ m inside lt.
          bit-bits_of words m ∙ ap (λ z. bit_at (get_or words z 0) (m % 64) == 1) inside ∙ ap (λ z. z == 1) (under (m % 64) (omega arith));
    }

pub IsLowestIn-bits_of : (words : List ℕ) (i w : ℕ) → w ≡ get_or words i 0 → 0 < w → w < 2 ^ 64 → IsLowestIn (bits_of words) i (i * 64 + trailing_zeros w64 w)
IsLowestIn-bits_of words i w is_word some fits =
    let lowest = bit_at-trailing_zeros w64 w some fits in
    lowest_in words i (trailing_zeros w64 w) lowest.0 (ap (λ z. bit_at z (trailing_zeros w64 w)) (sym is_word) ∙ lowest.1)
    (λ j lt. ap (λ z. bit_at z j) (sym is_word) ∙ lowest.2 j lt)

pub HasBitIn-bits_of : (words : List ℕ) (i w : ℕ) → w ≡ get_or words i 0 → 0 < w → w < 2 ^ 64 → HasBitIn (bits_of words) i
HasBitIn-bits_of words i w is_word some fits =
    let lowest = IsLowestIn-bits_of words i w is_word some fits in
    record { place = i * 64 + trailing_zeros w64 w; inside = lowest.inside; set = lowest.set }

-- further words of 0
bit_in-append : (words : List ℕ) (k n : ℕ) → bit_in (words ++ replicate k 0) n ≡ bit_in words n
unfolding bit_in
bit_in-append words k n = ap (λ z. bit_at z (n % 64) == 1) (get_or-append_default 0 words k (n / 64))

pub bits_of-append : (words : List ℕ) (k : ℕ) → bits_of (words ++ replicate k 0) ≡ bits_of words ++ replicate (64 * k) false
bits_of-append words k =
    let sum : 64 * (length words + length (replicate k 0)) ≡ length (bits_of words ++ replicate (64 * k) false) =
    omega (arith, length-bits_of words, length-append (bits_of words) (replicate (64 * k) false), length-replicate {A = ℕ} k 0, length-replicate {A = Bool} (64 * k) false) in
    ext_get_or false (bits_of (words ++ replicate k 0)) (bits_of words ++ replicate (64 * k) false)
    (length-bits_of (words ++ replicate k 0) ∙ ap (λ n. 64 * n) (length-append words (replicate k 0)) ∙ sum)
    (λ n lt. bit-bits_of (words ++ replicate k 0) n ∙ bit_in-append words k n ∙ sym (get_or-append_default false (bits_of words) (64 * k) n ∙ bit-bits_of words n))

pub bits_of-nil : bits_of [] ≡ []
unfolding bits_of
bits_of-nil = refl

-- a bit of the list lies in one of the words
pub word-within : (words : List ℕ) (bits : List Bool) (n : ℕ) → bits_of words ≡ bits → n < length bits → n / 64 < length words
word-within words bits n view_is inside = omega (arith, ap length view_is, length-bits_of words)

-- a word that isn't 0 is one of the words
pub word-there : (words : List ℕ) (i w : ℕ) → w ≡ get_or words i 0 → (w ≡ 0 → ⊥) → i < length words
word-there words i w is_word some =
    elim (cases_lt i (length words)) [
      | inl inside ↦ inside
      | inr past ↦ absurd (some (is_word ∙ get_or_past words i 0 past))
    ]

-- words with further words of 0
pub bits_of-gains : (words words' : List ℕ) (bits : List Bool) → bits_of words ≡ bits →
    words' ≡ words ++ replicate (length words' - length words) 0 → GainsClearBits bits (bits_of words')
bits_of-gains words words' bits view_is gains =
    let more : 64 * (length words' - length words) ≡ length (bits_of words') - length bits = omega (arith, length-bits_of words', length-bits_of words, ap length view_is) in
    ap bits_of gains ∙ bits_of-append words (length words' - length words) ∙ ap (λ xs. xs ++ replicate (64 * (length words' - length words)) false)
    view_is ∙ ap (λ k. bits ++ replicate k false) more
