-- Tables made row by row.
use Rattle.std.proofs.Common.{◌≡◌, ℕ, ◌*◌, ◌^◌, ◌/◌, ◌%◌, ◌<◌, ◌≢◌, Bool, true, false, List, length, refl, sym, ◌∙◌, ap, arith, get_or, inl, inr, bit_or}
use Rattle.std.specs.Prelude.{slice_set}
use Rattle.std.specs.Int.{w64}
use Rattle.std.proofs.lemmas.Nat.Bits.{bit_at_set_same, bit_at_set_other}
use Rattle.std.proofs.lemmas.Bool.{cases_eq}
use Rattle.std.proofs.lemmas.List.{get_or-set_same, get_or-set_other}
use Rattle.std.proofs.lemmas.List.FromFn.{length-map-range_with_len, fill_by_all}
use Rattle.lnet_tables.specs.Bits.{Rows, tabulate, row, by_rows, is_set}
use Rattle.lnet_tables.specs.Words.{word_bit}
use Rattle.lnet_tables.proofs.Ops.{same_rows}

abbrev pub with_row : List ℕ → ℕ → List ℕ
with_row ws r = slice_set ws (r / 64) (bit_or (get_or ws (r / 64) 0) (1 * 2 ^ (r % 64) % 18446744073709551616))

pub set_here : (ws : List ℕ) (r : ℕ) → length ws ≡ 16 → r < 1024 → word_bit (with_row ws r) r ≡ true
unfolding word_bit is_set
set_here ws r long lt =
    let k : r / 64 < length ws = omega arith in
    rw (
      get_or-set_same ws (r / 64) (bit_or (get_or ws (r / 64) 0) (1 * 2 ^ (r % 64) % 18446744073709551616)) 0 k,
      bit_at_set_same w64 (get_or ws (r / 64) 0) (r % 64) (omega arith),
    ) refl

pub set_others : (ws : List ℕ) (r : ℕ) → length ws ≡ 16 → r < 1024 → (k : ℕ) → k ≢ r → word_bit (with_row ws r) k ≡ word_bit ws k
unfolding word_bit is_set
set_others ws r long lt k ne =
    let v : ℕ = bit_or (get_or ws (r / 64) 0) (1 * 2 ^ (r % 64) % 18446744073709551616) in
    elim (cases_eq (k / 64) (r / 64)) [
      | inl e ↦
          let d : k % 64 ≢ r % 64 = λ m. ne (omega arith) in
          rw (e, get_or-set_same ws (r / 64) v 0 (omega arith), bit_at_set_other w64 (get_or ws (r / 64) 0) (r % 64) (omega arith) (k % 64) d) refl
      | inr n ↦ rw (get_or-set_other ws (r / 64) (k / 64) v 0 n) refl
    ]

pub rows_long : (n : ℕ) (f : ℕ → Bool) → length (tabulate f (2 ^ n)) ≡ 2 ^ n
unfolding tabulate
rows_long n f = length-map-range_with_len f 0 (2 ^ n)

-- a table of the right length is its rows
pub eta_rows : (t : Rows) → length t.bits ≡ 2 ^ t.vars → t ≡ by_rows t.vars (row t)
unfolding tabulate
eta_rows t h =
    let e : t.bits ≡ tabulate (row t) (2 ^ t.vars) = fill_by_all (row t) t.bits (2 ^ t.vars) false h (λ k lt. refl) in
    ap (λ (b : List Bool). let s : Rows = record { vars = t.vars; bits = b } in s) e

-- how a table that is known row by row is told
pub told_by_rows : (t : Rows) (n : ℕ) (f : ℕ → Bool) → t.vars ≡ n → length t.bits ≡ 2 ^ n → ((r : ℕ) → r < 2 ^ n → row t r ≡ f r) → t ≡ by_rows n f
told_by_rows t n f e long h =
    eta_rows t (long ∙ ap (λ k. 2 ^ k) (sym e)) ∙ rw e (same_rows n (row t) f h)
