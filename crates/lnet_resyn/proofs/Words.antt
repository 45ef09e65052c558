-- Functions of up to four variables as words.
use Rattle.std.proofs.Common.{◌≡◌, ℕ, zero, suc, ◌+◌, ◌-◌, ◌*◌, ◌^◌, ◌<◌, ◌≤◌, ◌/◌, ◌%◌, Bool, true, false, not, ◌&&◌, refl, sym, ap, ◌∙◌, arith, w64, bit_and, ◌==◌, pow_mono, List, length, get_or}
use Rattle.std.proofs.lemmas.List.{get_or-map}
use Rattle.std.specs.Prelude.{count_ones, bit_xor}
use Rattle.std.specs.Int.{bit_not}
use Rattle.lnet_tables.proofs.WordBits.{mod_bit}
use lib.Count.{ones_step, ones-le}
use Rattle.std.proofs.lemmas.Nat.{pow_pos, and_mask}
use Rattle.lnet_tables.specs.Bits.{Rows, row, is_set, number_by, bit_xor2, bit_of, constant_rows, not_rows}
use Rattle.lnet_tables.specs.Recipes.{apply}
use Rattle.lnet_tables.specs.declared.step.StepOp.TheVariants.{Maj}
use Rattle.lnet_tables.specs.Inverse.{row_inside}
use Rattle.lnet_tables.proofs.Ops.{same_rows, set_and, set_xor, set_not}
use Rattle.lnet_npn.proofs.Images.{told_by_bits}
use Rattle.lnet_resyn.specs.Majority.{count_rows, word_rows, words_rows, column, agreements}

lowest : (b : Bool) (n : ℕ) → ((bit_of b + 2 * n) % 2 ≡ bit_of b) × ((bit_of b + 2 * n) / 2 ≡ n)
lowest true n = omega arith
lowest false n = omega arith

-- the set bits of a number that is given by its bits
pub ones-number : (p : ℕ → Bool) (n : ℕ) → count_ones (number_by p n) ≡ count_rows n p
unfolding number_by count_rows
ones-number p zero = omega (arith, ones-le 0 0 (omega arith))
ones-number p (suc n) =
    let low = lowest (p 0) (number_by (λ i. p (i + 1)) n) in
    ones_step _ ∙ (λ i. low.0 i + count_ones (low.1 i)) ∙ ap (λ k. bit_of (p 0) + k) (ones-number (λ i. p (i + 1)) n)

rows_few : (n r : ℕ) → n ≤ 4 → r < 2 ^ n → r < 16
rows_few n r few h = let k : 2 ^ n ≤ 2 ^ 4 = pow_mono few in omega arith

set_mod : (x w r : ℕ) → r < w → is_set (x % 2 ^ w) r ≡ is_set x r
unfolding is_set
set_mod x w r h = ap (λ b. b == 1) (mod_bit x w r h)

agreed_bits : (n f w r : ℕ) → n ≤ 4 → bit_xor f w < 2 ^ 64 → r < 2 ^ n → is_set (bit_and (bit_not w64 (bit_xor f w)) (2 ^ 2 ^ n - 1)) r ≡ not (bit_xor2 (row (word_rows n f) r) (row (word_rows n w) r))
agreed_bits n f w r few hx h =
    let low : r < 16 = rows_few n r few h in
    ap (λ z. is_set z r) (and_mask (bit_not w64 (bit_xor f w)) (2 ^ n))
    ∙ set_mod (bit_not w64 (bit_xor f w)) (2 ^ n) r h
    ∙ set_not (bit_xor f w) r hx (omega arith)
    ∙ ap not (set_xor f w r)
    ∙ (λ i. not (bit_xor2 (sym (row_inside n (is_set f) r h) i) (sym (row_inside n (is_set w) r h) i)))

masked_small : (x k : ℕ) → bit_and x (2 ^ k - 1) < 2 ^ k
masked_small x k =
    let is = and_mask x k in
    let pos = pow_pos k in
    let lt : x % 2 ^ k < 2 ^ k = omega arith in
    rw is lt

-- the count of the rows in which two words agree
pub agreed : (n f w : ℕ) → n ≤ 4 → bit_xor f w < 2 ^ 64 → count_ones (bit_and (bit_not w64 (bit_xor f w)) (2 ^ 2 ^ n - 1)) ≡ agreements (word_rows n f) (word_rows n w)
agreed n f w few hx =
    ap count_ones (told_by_bits _ (2 ^ n) (λ r. not (bit_xor2 (row (word_rows n f) r) (row (word_rows n w) r))) (masked_small _ (2 ^ n)) (λ r h. agreed_bits n f w r few hx h))
    ∙ ones-number _ (2 ^ n)

-- ---- counts
count-le : (n : ℕ) (p : ℕ → Bool) → count_rows n p ≤ n
unfolding count_rows
count-le zero p = omega arith
count-le (suc n) p = let k = count-le n (λ r. p (r + 1)) in bit_more (p 0) _ n k
  where
    bit_more : (b : Bool) (c n : ℕ) → c ≤ n → bit_of b + c ≤ suc n
    bit_more true c n h = omega arith
    bit_more false c n h = omega arith

pub agreements-le : (f t : Rows) → agreements f t ≤ 2 ^ f.vars
agreements-le f t = count-le (2 ^ f.vars) _

-- ---- majorities of words
three : (a b c : Bool) → bit_xor2 (a && b) (c && bit_xor2 a b) ≡ apply Maj a b c
three true true true = refl
three true true false = refl
three true false true = refl
three true false false = refl
three false true true = refl
three false true false = refl
three false false true = refl
three false false false = refl

pub majority-set : (a b c r : ℕ) → is_set (bit_xor (bit_and a b) (bit_and c (bit_xor a b))) r ≡ apply Maj (is_set a r) (is_set b r) (is_set c r)
majority-set a b c r =
    set_xor (bit_and a b) (bit_and c (bit_xor a b)) r
    ∙ (λ i. bit_xor2 (set_and a b r i) (set_and c (bit_xor a b) r i))
    ∙ ap (λ z. bit_xor2 (is_set a r && is_set b r) (is_set c r && z)) (set_xor a b r)
    ∙ three (is_set a r) (is_set b r) (is_set c r)

-- a word as an operand, plain and complemented
pub operand-plain : (n w r : ℕ) → n ≤ 4 → r < 2 ^ n → is_set w r ≡ row (word_rows n w) r
operand-plain n w r few h = sym (row_inside n (is_set w) r h)

pub operand-other : (n w r : ℕ) → n ≤ 4 → w < 2 ^ 64 → r < 2 ^ n → is_set (bit_not w64 w) r ≡ not (row (word_rows n w) r)
operand-other n w r few small h =
    let low : r < 16 = rows_few n r few h in
    set_not w r small (omega arith) ∙ ap not (operand-plain n w r few h)

-- the column at a place of a pool of words
pub column-word : (n : ℕ) (ws : List ℕ) (i : ℕ) → i < length ws → column n (words_rows n ws) i ≡ word_rows n (get_or ws i 0)
column-word n ws i h = get_or-map (word_rows n) ws i 0 (constant_rows n false) h

-- the complement of a word is the complement of its function
pub other-word : (n w : ℕ) → n ≤ 4 → w < 2 ^ 64 → word_rows n (bit_not w64 w) ≡ not_rows (word_rows n w)
other-word n w few small = same_rows n _ _ (λ r h. operand-other n w r few small h)
