-- Whether a table of up to six variables depends on a variable, told from its one word.
use Rattle.std.proofs.Common.{◌≡◌, ℕ, ◌*◌, ◌^◌, ◌/◌, ◌%◌, ◌<◌, ◌≤◌, Bool, true, false, sym, ◌∙◌, ap, arith, inl, inr, ◌==◌, length, not}
use Rattle.std.specs.Int.{bit_at}
use Rattle.std.proofs.lemmas.Nat.{pow_pos, div-add-mod', mul-le, le-div}
use Rattle.std.proofs.lemmas.Nat.Bits.{same_from_bits_below}
use Rattle.std.proofs.lemmas.Bool.{cases_lt}
use Rattle.std.proofs.lemmas.Bool.Decides.{Decides-eqb, Decides-like, same_from_decides}
use Rattle.std.proofs.lemmas.List.{get_or_past}
use Rattle.lnet_tables.specs.Bits.{Rows, row, is_set, with_bit, bit_of, cofactor_rows, equal_rows, depends_on}
use Rattle.lnet_tables.specs.Inverse.{row_inside, bit_of_set}
use Rattle.lnet_tables.proofs.Constants.{pow_within}
use Rattle.lnet_tables.proofs.Ops.{same_rows}
use Rattle.lnet_tables.proofs.RowNumbers.{bit_within, put_fits}
use Rattle.lnet_tables.proofs.WordBits.{mod_bit}
use Rattle.lnet_tables.proofs.Equal.{equal_rows_decides}

pub put_above : (r i n : ℕ) (v : Bool) → i < n → 2 ^ n ≤ r → 2 ^ n ≤ with_bit r i v
unfolding with_bit
put_above r i n v lt ge =
    let b : bit_at (r % 2 ^ n) i ≡ bit_at r i = mod_bit r n i lt in
    let w : bit_at r i * 2 ^ i ≤ r % 2 ^ n = rw b at (bit_within (r % 2 ^ n) i) in
    let q : 1 ≤ r / 2 ^ n = le-div 1 r (2 ^ n) (pow_pos n) (omega arith) in
    let m : 1 * 2 ^ n ≤ r / 2 ^ n * 2 ^ n = mul-le 1 (2 ^ n) (r / 2 ^ n) (2 ^ n) q (omega arith) in
    omega (arith, div-add-mod' r (2 ^ n))

pub record Halves (a : Rows) (i w x y : ℕ) : Type 0 where
  pub long : length a.bits ≡ 2 ^ a.vars
  pub few : a.vars ≤ 6
  pub inside : i < a.vars
  pub word : (r : ℕ) → r < 64 → is_set w r ≡ row a r
  pub low : (r : ℕ) → r < 64 → is_set x r ≡ is_set w (with_bit r i false)
  pub high : (r : ℕ) → r < 64 → is_set y r ≡ is_set w (with_bit r i true)
  pub low_fits : x < 2 ^ 64
  pub high_fits : y < 2 ^ 64

half_row : (a : Rows) (i w r : ℕ) (v : Bool) → ((k : ℕ) → k < 64 → is_set w k ≡ row a k) → i < a.vars → a.vars ≤ 6 → r < 64
    → is_set w (with_bit r i v) ≡ row a (with_bit r i v)
half_row a i w r v word lt few h = word (with_bit r i v) (put_fits r i 6 (omega arith) h v)

past_rows : (a : Rows) (r : ℕ) → length a.bits ≡ 2 ^ a.vars → 2 ^ a.vars ≤ r → row a r ≡ false
past_rows a r long ge = get_or_past a.bits r false (omega (arith, long))

same_cofactors : (a : Rows) (i w x y : ℕ) → Halves a i w x y → x ≡ y → cofactor_rows a i false ≡ cofactor_rows a i true
same_cofactors a i w x y h e = same_rows a.vars _ _ (λ r lt.
    let b : r < 64 = omega (arith, pow_within a.vars 6 h.few) in
    sym (half_row a i w r false h.word h.inside h.few b) ∙ sym (h.low r b) ∙ ap (λ k. is_set k r) e ∙ h.high r b ∙ half_row a i w r true h.word h.inside h.few b)

same_bit : (a : Rows) (i w x y : ℕ) → Halves a i w x y → cofactor_rows a i false ≡ cofactor_rows a i true → (r : ℕ) → r < 64
    → row a (with_bit r i false) ≡ row a (with_bit r i true)
same_bit a i w x y h e r b =
    elim (cases_lt r (2 ^ a.vars)) [
      | inl lt ↦
          sym (row_inside a.vars (λ k. row a (with_bit k i false)) r lt) ∙ ap (λ (t : Rows). row t r) e ∙ row_inside a.vars (λ k. row a (with_bit k i true)) r lt
      | inr ge ↦
          past_rows a (with_bit r i false) h.long (put_above r i a.vars false h.inside ge)
          ∙ sym (past_rows a (with_bit r i true) h.long (put_above r i a.vars true h.inside ge))
    ]

same_halves : (a : Rows) (i w x y : ℕ) → Halves a i w x y → cofactor_rows a i false ≡ cofactor_rows a i true → x ≡ y
same_halves a i w x y h e =
    same_from_bits_below 64 x y h.low_fits h.high_fits (λ r b.
    sym (bit_of_set x r)
    ∙ ap bit_of (h.low r b ∙ half_row a i w r false h.word h.inside h.few b ∙ same_bit a i w x y h e r b
    ∙ sym (half_row a i w r true h.word h.inside h.few b) ∙ sym (h.high r b))
    ∙ bit_of_set y r)

pub halves_tell : (a : Rows) (i w x y : ℕ) → Halves a i w x y → not (x == y) ≡ depends_on a i
unfolding depends_on
halves_tell a i w x y h =
    ap not (same_from_decides (x == y) (equal_rows (cofactor_rows a i false) (cofactor_rows a i true))
    (Decides-like (x == y) (same_cofactors a i w x y h) (same_halves a i w x y h) (Decides-eqb x y))
    (equal_rows_decides (cofactor_rows a i false) (cofactor_rows a i true)))
