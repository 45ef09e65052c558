-- Cuts as they are kept: which words hold a table, and that its words tell it from the others.
use Rattle.std.proofs.Common.{◌≡◌, ℕ, zero, suc, ◌+◌, ◌*◌, ◌^◌, ◌/◌, ◌%◌, ◌<◌, ◌≤◌, Bool, false, eqb, List, []}
use Rattle.std.proofs.Common.{◌∷◌, length, get_or, refl, sym, ap, subst, ◌∙◌, inl, inr, arith, add-one, lit<, ◌==◌, ◌-◌}
use Rattle.std.specs.Int.{bit_at}
use Rattle.std.proofs.lemmas.Nat.Bits.{bit_at-zero, bit_at-lt, bit_at_above, same_from_bits}
use Rattle.std.proofs.lemmas.Bool.{cases_lt}
use Rattle.std.proofs.lemmas.List.{ext_get_or}
use Rattle.lnet_tables.specs.Bits.{Rows, row, by_rows, is_set, bit_of}
use Rattle.lnet_tables.specs.Words.{word_bit}
use Rattle.lnet_tables.specs.Inverse.{row_inside, row_outside}
use Rattle.lnet_tables.proofs.Ops.{same_rows}
use Rattle.lnet_model.specs.Cuts.{CutValue}
use Rattle.lnet_cuts.specs.Stored.{IsKept}
use Rattle.lnet_cuts.specs.Agreeing.{both}
use Rattle.lnet_cuts.proofs.TableRows.{bit_zeros, rows-few}

-- ---- stored cuts

abbrev pub stored_value : List ℕ → List ℕ → CutValue
stored_value xs ws = record { leaves = xs; table = by_rows (length xs) (word_bit ws) }

abbrev pub value_by : List ℕ → (ℕ → Bool) → CutValue
value_by xs f = record { leaves = xs; table = by_rows (length xs) f }

pub stored-as : (xs ys ws : List ℕ) (f : ℕ → Bool) → xs ≡ ys → ((r : ℕ) → r < 2 ^ length xs → word_bit ws r ≡ f r) → stored_value xs ws ≡ value_by ys f
stored-as xs ys ws f e h = both (stored_value xs ws) (value_by xs f) refl (same_rows (length xs) (word_bit ws) f h) ∙ ap (λ v. value_by v f) e

pub row-two : (r : ℕ) → r < 2 → word_bit (2 ∷ 0 ∷ 0 ∷ 0 ∷ []) r ≡ is_set r 0
unfolding word_bit is_set
row-two zero h = refl
row-two (suc zero) h = refl
row-two (suc (suc r)) h = absurd (omega arith)

pub bit-stored : (xs ws : List ℕ) (c : CutValue) (r : ℕ) → stored_value xs ws ≡ c → r < 2 ^ length c.leaves → word_bit ws r ≡ row c.table r
bit-stored xs ws c r e h =
    let k : r < 2 ^ length xs = subst (λ (z : CutValue). r < 2 ^ length z.leaves) (sym e) h in
    sym (row_inside (length xs) (word_bit ws) r k) ∙ ap (λ (z : CutValue). row z.table r) e

-- ---- tables that are kept are told apart by their words

bit-small : (x : ℕ) → x < 2 → bit_of (x == 1) ≡ x
bit-small zero h = refl
bit-small (suc zero) h = refl
bit-small (suc (suc x)) h = absurd (omega arith)

bit-is : (n i : ℕ) → bit_of (is_set n i) ≡ bit_at n i
unfolding is_set
bit-is n i = bit-small (bit_at n i) (bit_at-lt n i)

any-row : (xs ws : List ℕ) → IsKept xs ws → (r : ℕ) → word_bit ws r ≡ row (by_rows (length xs) (word_bit ws)) r
any-row xs ws k r = elim (cases_lt r (2 ^ length xs)) as (λ _. word_bit ws r ≡ row (by_rows (length xs) (word_bit ws)) r) [
  | inl lt ↦ sym (row_inside (length xs) (word_bit ws) r lt)
  | inr ge ↦ k.clear r ge ∙ sym (row_outside (length xs) (word_bit ws) r ge)
]

word-place : (ws : List ℕ) (k i : ℕ) → i < 64 → word_bit ws (64 * k + i) ≡ is_set (get_or ws k 0) i
unfolding word_bit
word-place ws k i h = let a : (64 * k + i) / 64 ≡ k = omega arith in let b : (64 * k + i) % 64 ≡ i = omega arith in rw (a, b) refl

pub same-kept : (xs ys ws vs : List ℕ) → IsKept xs ws → IsKept ys vs → stored_value xs ws ≡ stored_value ys vs → ws ≡ vs
same-kept xs ys ws vs a b e =
    let rows : (r : ℕ) → word_bit ws r ≡ word_bit vs r = λ r. any-row xs ws a r ∙ ap (λ (z : CutValue). row z.table r) e ∙ sym (any-row ys vs b r) in
    ext_get_or 0 ws vs (a.four ∙ sym b.four) (λ k h. same_from_bits (get_or ws k 0) (get_or vs k 0) (λ i. elim (cases_lt i 64) as (λ _. bit_at (get_or ws k 0) i ≡ bit_at (get_or vs k 0) i) [
      | inl lt ↦ sym (bit-is (get_or ws k 0) i) ∙ ap bit_of (sym (word-place ws k i lt) ∙ rows (64 * k + i) ∙ word-place vs k i lt) ∙ bit-is (get_or vs k 0) i
      | inr ge ↦ bit_at_above (get_or ws k 0) 64 i (a.small k) ge ∙ sym (bit_at_above (get_or vs k 0) 64 i (b.small k) ge)
    ]))

small-zeros : (i : ℕ) → get_or (0 ∷ 0 ∷ 0 ∷ 0 ∷ []) i 0 < 2 ^ 64
small-zeros zero = lit< tt
small-zeros (suc zero) = lit< tt
small-zeros (suc (suc zero)) = lit< tt
small-zeros (suc (suc (suc zero))) = lit< tt
small-zeros (suc (suc (suc (suc i)))) = lit< tt

small-two : (i : ℕ) → get_or (2 ∷ 0 ∷ 0 ∷ 0 ∷ []) i 0 < 2 ^ 64
small-two zero = lit< tt
small-two (suc zero) = lit< tt
small-two (suc (suc zero)) = lit< tt
small-two (suc (suc (suc zero))) = lit< tt
small-two (suc (suc (suc (suc i)))) = lit< tt

rest-two : (k i : ℕ) → is_set (get_or (2 ∷ 0 ∷ 0 ∷ 0 ∷ []) (k + 1) 0) i ≡ false
unfolding is_set
rest-two k i = rw (add-one k) (rest k) where
  rest : (k : ℕ) → (bit_at (get_or (0 ∷ 0 ∷ 0 ∷ []) k 0) i == 1) ≡ false
  rest zero = rw bit_at-zero refl
  rest (suc zero) = rw bit_at-zero refl
  rest (suc (suc zero)) = rw bit_at-zero refl
  rest (suc (suc (suc k))) = rw bit_at-zero refl

clear-two : (r : ℕ) → 2 ≤ r → word_bit (2 ∷ 0 ∷ 0 ∷ 0 ∷ []) r ≡ false
unfolding word_bit is_set
clear-two r h = elim (cases_lt r 64) as (λ _. word_bit (2 ∷ 0 ∷ 0 ∷ 0 ∷ []) r ≡ false) [
  | inl lt ↦ (let a : r / 64 ≡ 0 = omega arith in let b : r % 64 ≡ r = omega arith in rw (a, b) (ap (λ v. eqb v 1) (bit_at_above 2 2 r (lit< tt) h)))
  | inr ge ↦ (let a : r / 64 ≡ r / 64 - 1 + 1 = omega arith in rw a (rest-two (r / 64 - 1) (r % 64)))
]

pub kept-two : (xs : List ℕ) → length xs ≡ 1 → IsKept xs (2 ∷ 0 ∷ 0 ∷ 0 ∷ [])
kept-two xs e = record { four = refl; small = λ i. small-two i; clear = λ r h. clear-two r (subst (λ v. 2 ^ v ≤ r) e h) }

pub kept-zeros : (xs : List ℕ) → IsKept xs (0 ∷ 0 ∷ 0 ∷ 0 ∷ [])
kept-zeros xs = record { four = refl; small = λ i. small-zeros i; clear = λ r h. bit_zeros r }

-- ---- a cut as a view gives it

words-at : (t rest : List ℕ) (k : ℕ) → k < 4 → get_or (get_or t 0 0 ∷ get_or t 1 0 ∷ get_or t 2 0 ∷ get_or t 3 0 ∷ rest) k 0 ≡ get_or t k 0
words-at t rest zero h = refl
words-at t rest (suc zero) h = refl
words-at t rest (suc (suc zero)) h = refl
words-at t rest (suc (suc (suc zero))) h = refl
words-at t rest (suc (suc (suc (suc k)))) h = absurd (omega arith)

pub widened-at : (t rest : List ℕ) (r : ℕ) → r < 256 → word_bit (get_or t 0 0 ∷ get_or t 1 0 ∷ get_or t 2 0 ∷ get_or t 3 0 ∷ rest) r ≡ word_bit t r
unfolding word_bit
widened-at t rest r h = ap (λ w. is_set w (r % 64)) (words-at t rest (r / 64) (omega arith))

abbrev pub cut_of : List ℕ → Rows → CutValue
cut_of xs t = record { leaves = xs; table = t }

pub given-as : (xs ys ws vs : List ℕ) (t : Rows) (k : ℕ) → xs ≡ ys → t ≡ by_rows k (word_bit ws) → k ≡ length ys → length ys ≤ 8 → ((r : ℕ) → r < 256 → word_bit ws r ≡ word_bit vs r)
    → cut_of xs t ≡ stored_value ys vs
given-as xs ys ws vs t k e h f few rows =
    let least : 2 ^ length ys ≤ 2 ^ 8 = rows-few (length ys) 8 few in
    both (cut_of xs t) (stored_value ys vs) e (h ∙ ap (λ n. by_rows n (word_bit ws)) f ∙ same_rows (length ys) (word_bit ws) (word_bit vs) (λ r lt. rows r (omega arith)))
