-- The word and the place in it of a row with one bit set.
use Rattle.std.proofs.Common.{◌≡◌, ℕ, ◌+◌, ◌-◌, ◌*◌, ◌^◌, ◌/◌, ◌%◌, ◌<◌, ◌≤◌, Bool, refl, sym, ◌∙◌, ap, arith, List, get_or}
use Rattle.std.specs.Int.{bit_at}
use Rattle.std.proofs.lemmas.Nat.{pow-add, shr-shr}
use Rattle.lnet_tables.specs.Bits.{is_set, with_bit, bit_of}
use Rattle.lnet_tables.specs.Words.{word_bit}
use Rattle.lnet_tables.proofs.RowNumbers.{bit_within, put_fits}
use Rattle.lnet_tables.proofs.WordBits.{mod_bit}

pub low_place : (r i : ℕ) (v : Bool) → i < 6 → with_bit r i v ≡ 64 * (r / 64) + with_bit (r % 64) i v
unfolding with_bit
low_place r i v h =
    let e : bit_at (r % 64) i ≡ bit_at r i = mod_bit r 6 i h in
    let b : bit_at (r % 64) i * 2 ^ i ≤ r % 64 = bit_within (r % 64) i in
    rw (← e) (omega arith)

pub high_place : (r j : ℕ) (v : Bool) → with_bit r (6 + j) v ≡ 64 * with_bit (r / 64) j v + r % 64
unfolding with_bit
high_place r j v =
    let e : bit_at (r / 64) j ≡ bit_at r (6 + j) = ap (λ m. m % 2) (shr-shr r 6 j) in
    let b : bit_at (r / 64) j * 2 ^ j ≤ r / 64 = bit_within (r / 64) j in
    let p : 2 ^ (6 + j) ≡ 64 * 2 ^ j = pow-add 2 6 j in
    let one : bit_at (r / 64) j * (64 * 2 ^ j) ≡ 64 * (bit_at (r / 64) j * 2 ^ j) = omega arith in
    let two : bit_of v * (64 * 2 ^ j) ≡ 64 * (bit_of v * 2 ^ j) = omega arith in
    rw (← e, p, one, two) (omega arith)

pub place_in_word : (ws : List ℕ) (k b : ℕ) → b < 64 → word_bit ws (64 * k + b) ≡ is_set (get_or ws k 0) b
unfolding word_bit
place_in_word ws k b h =
    let q : (64 * k + b) / 64 ≡ k = omega arith in
    let m : (64 * k + b) % 64 ≡ b = omega arith in
    rw (q, m) refl

pub in_word : (ws : List ℕ) (r : ℕ) → word_bit ws r ≡ is_set (get_or ws (r / 64) 0) (r % 64)
unfolding word_bit
in_word ws r = refl

-- a row of words whose every word has bit i of its places set to v
pub rows_within : (ws out : List ℕ) (r i : ℕ) (v : Bool) → i < 6
    → ((b : ℕ) → b < 64 → is_set (get_or out (r / 64) 0) b ≡ is_set (get_or ws (r / 64) 0) (with_bit b i v))
    → word_bit out r ≡ word_bit ws (with_bit r i v)
rows_within ws out r i v lt h =
    in_word out r ∙ h (r % 64) (omega arith)
    ∙ sym (ap (λ n. word_bit ws n) (low_place r i v lt) ∙ place_in_word ws (r / 64) (with_bit (r % 64) i v) (put_fits (r % 64) i 6 lt (omega arith) v))

-- a row of words that are those whose numbers have bit i - 6 set to v
pub rows_between : (ws out : List ℕ) (r i : ℕ) (v : Bool) → 6 ≤ i
    → get_or out (r / 64) 0 ≡ get_or ws (with_bit (r / 64) (i - 6) v) 0
    → word_bit out r ≡ word_bit ws (with_bit r i v)
rows_between ws out r i v ge h =
    let n : i ≡ 6 + (i - 6) = omega arith in
    in_word out r ∙ ap (λ w. is_set w (r % 64)) h
    ∙ sym (ap (λ k. word_bit ws (with_bit r k v)) n ∙ ap (λ m. word_bit ws m) (high_place r (i - 6) v)
    ∙ place_in_word ws (with_bit (r / 64) (i - 6) v) (r % 64) (omega arith))

-- the first word
pub first_row : (ws : List ℕ) (r : ℕ) → r < 64 → word_bit ws r ≡ is_set (get_or ws 0 0) r
first_row ws r h =
    let e : 64 * 0 + r ≡ r = omega arith in
    ap (word_bit ws) (sym e) ∙ place_in_word ws 0 r h
