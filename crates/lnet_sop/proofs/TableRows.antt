-- Tables of halves, of unions, and of one variable more, row by row.
use Rattle.std.proofs.Common.{◌≡◌, ℕ, ◌+◌, ◌-◌, ◌*◌, ◌%◌, ◌^◌, ◌<◌, Bool, true, false, not, cond, refl, sym, ◌∙◌, ap, subst, arith, ◌||◌}
use Rattle.std.specs.Prelude.{◌&&◌}
use Rattle.std.proofs.lemmas.Nat.{pow-add, mul-le, pow_pos}
use Rattle.std.proofs.lemmas.Nat.Bits.{bit_at_above}
use Rattle.lnet_tables.specs.Bits.{Rows, row, by_rows, bit_of, is_set, with_bit, and_rows, not_rows, expand_rows, variable_rows}
use Rattle.lnet_tables.specs.Inverse.{row_inside}
use Rattle.lnet_tables.proofs.Ops.{same_rows}
use Rattle.lnet_sop.specs.Isop.{half, or_rows, joined_rows}

or_bits : (x y : Bool) → not (not x && not y) ≡ (x || y)
or_bits true y = refl
or_bits false true = refl
or_bits false false = refl

-- the or of two tables by two complements and an and
pub or_is : (a b : Rows) → a.vars ≡ b.vars → not_rows (and_rows (not_rows a) (not_rows b)) ≡ or_rows a b
or_is a b e = same_rows a.vars _ _ (λ r lt.
    ap not (row_inside a.vars _ r lt)
    ∙ ap (λ t. not (t && row (not_rows b) r)) (row_inside a.vars _ r lt)
    ∙ ap (λ t. not (not (row a r) && t)) (row_inside b.vars _ r (rw (← e) lt))
    ∙ or_bits (row a r) (row b r))

-- the rows of a half by the words of a cofactor
pub half_is : (t : Rows) (n : ℕ) (value : Bool) (f : ℕ → Bool) → n < t.vars → ((r : ℕ) → f r ≡ row (by_rows t.vars (λ k. row t (with_bit k n value))) r) → by_rows n f ≡ half t n value
unfolding with_bit
half_is t n value f lt h = same_rows n _ _ (λ r l.
    let more : r < 2 ^ t.vars = less r l in
    let e : with_bit r n value ≡ bit_of value * 2 ^ n + r = ap (λ k. (r - k * 2 ^ n) + bit_of value * 2 ^ n) (bit_at_above r n n l (omega arith)) ∙ omega arith in
    h r ∙ row_inside t.vars _ r more ∙ ap (λ k. row t k) e) where
      less : (r : ℕ) → r < 2 ^ n → r < 2 ^ t.vars
      less r l =
          let e : n + (t.vars - n) ≡ t.vars = omega arith in
          let p : 2 ^ t.vars ≡ 2 ^ n * 2 ^ (t.vars - n) = ap (λ k. 2 ^ k) (sym e) ∙ pow-add 2 n (t.vars - n) in
          omega (arith, p, mul-le (2 ^ n) 1 (2 ^ n) (2 ^ (t.vars - n)) (omega arith) (pow_pos (t.vars - n)))

joined_bits : (v x y : Bool) → ((x && not v) || (y && v)) ≡ cond v y x
joined_bits true true true = refl
joined_bits true true false = refl
joined_bits true false true = refl
joined_bits true false false = refl
joined_bits false true true = refl
joined_bits false true false = refl
joined_bits false false true = refl
joined_bits false false false = refl

-- two halves put together
pub joined_is : (low high : Rows) (n m : ℕ) → low.vars ≡ high.vars → n ≡ low.vars + 1 → m ≡ low.vars
    → or_rows (and_rows (expand_rows low n) (not_rows (variable_rows n m))) (and_rows (expand_rows high n) (variable_rows n m)) ≡ joined_rows low high
joined_is low high n m e en em = subst (λ (k : ℕ). or_rows (and_rows (expand_rows low k) (not_rows (variable_rows k m))) (and_rows (expand_rows high k) (variable_rows k m)) ≡ joined_rows low high) (sym en)
    (same_rows (low.vars + 1) _ _ (λ r lt. rw (
      row_inside (low.vars + 1) (λ r. row (expand_rows low (low.vars + 1)) r && row (not_rows (variable_rows (low.vars + 1) m)) r) r lt,
      row_inside (low.vars + 1) (λ r. row (expand_rows high (low.vars + 1)) r && row (variable_rows (low.vars + 1) m) r) r lt,
      row_inside (low.vars + 1) (λ r. row low (r % 2 ^ low.vars)) r lt,
      row_inside (low.vars + 1) (λ r. row high (r % 2 ^ high.vars)) r lt,
      row_inside (low.vars + 1) (λ r. not (row (variable_rows (low.vars + 1) m) r)) r lt,
      row_inside (low.vars + 1) (λ r. is_set r m) r lt,
      em,
      ← e,
    ) (joined_bits (is_set r low.vars) (row low (r % 2 ^ low.vars)) (row high (r % 2 ^ low.vars)))))
