-- A cover row by row, and its table from the last row down.
use Rattle.std.proofs.Common.{◌≡◌, ℕ, suc, ◌+◌, ◌-◌, ◌*◌, ◌^◌, ◌<◌, ◌≤◌, ◌||◌, Bool, true, false, not, List, ◌∷◌, length, drop, slice_get, Some, All, refl, sym, ap, ◌∙◌, inl, inr, arith}
use Rattle.std.specs.Prelude.{if◌then◌else◌}
use Rattle.std.specs.Int.{from_bool}
use Rattle.std.specs.List.{list_any}
use Rattle.std.proofs.Math.Seq.{drop-cons}
use lib.Pow.{pow_mono}
use Rattle.std.proofs.lemmas.Bool.Decides.{eqb_tells}
use Rattle.std.proofs.lemmas.Option.{slice_get_within, get_or_from_slice_get}
use Rattle.lnet_tables.specs.Bits.{number_by, bit_of}
use Rattle.lnet_tables.proofs.RowNumbers.{number_below}
use Rattle.lnet_tables.proofs.Shrunk.{number_same}
use Rattle.lnet_edge.specs.Values.{row_holds, cover_value, complemented}

-- ---- rows

twice-not : (b : Bool) → complemented (not b) true ≡ b
twice-not true = refl
twice-not false = refl

module _ (rows : List (List ℕ)) (bits : List Bool) (k : ℕ) (row : List ℕ) (stands : slice_get rows k ≡ Some row) (so_far : list_any (λ (r : List ℕ). row_holds r bits) (drop k rows) ≡ list_any (λ (r : List ℕ). row_holds r bits) rows) where
  row-first : drop k rows ≡ row ∷ drop (suc k) rows
  row-first = drop-cons rows k row (slice_get_within rows k row stands) ∙ ap (λ r. r ∷ drop (suc k) rows) (get_or_from_slice_get rows k row row stands)

  rows-split : (row_holds row bits || list_any (λ (r : List ℕ). row_holds r bits) (drop (suc k) rows)) ≡ list_any (λ (r : List ℕ). row_holds r bits) rows
  rows-split = sym (ap (list_any (λ (r : List ℕ). row_holds r bits)) row-first) ∙ so_far

  -- a row that holds decides
  pub cover-found : (value : Bool) → row_holds row bits ≡ true → value ≡ cover_value (record { value = value; rows = rows }) bits
  cover-found value holds =
      let any : true ≡ list_any (λ (r : List ℕ). row_holds r bits) rows = ap (λ b. b || list_any (λ (r : List ℕ). row_holds r bits) (drop (suc k) rows)) (sym holds) ∙ rows-split in
      let low = slice_get_within rows k row stands in
      elim (eqb_tells (length rows) 0) as (λ _. value ≡ cover_value (record { value = value; rows = rows }) bits) [
        | inl p ↦ absurd (let e = p.1 in omega arith)
        | inr p ↦ sym (ap (λ b. if b then false else complemented (not value) (list_any (λ (r : List ℕ). row_holds r bits) rows)) p.0 ∙ ap (complemented (not value)) (sym any) ∙ twice-not value)
      ]

  -- a row that doesn't hold says nothing
  pub rows-next : row_holds row bits ≡ false → list_any (λ (r : List ℕ). row_holds r bits) (drop (k + 1) rows) ≡ list_any (λ (r : List ℕ). row_holds r bits) rows
  rows-next fails =
      let more : k + 1 ≡ suc k = omega arith in
      ap (λ j. list_any (λ (r : List ℕ). row_holds r bits) (drop j rows)) more
      ∙ ap (λ b. b || list_any (λ (r : List ℕ). row_holds r bits) (drop (suc k) rows)) (sym fails)
      ∙ rows-split

-- a row has a cell for each operand
pub row-length : (rows : List (List ℕ)) (n k : ℕ) (row : List ℕ) → All (λ (r : List ℕ). length r ≡ n) rows → slice_get rows k ≡ Some row → length row ≡ n
row-length rows n k row all stands =
    ap (λ (r : List ℕ). length r) (sym (get_or_from_slice_get rows k row row stands)) ∙ all k row (slice_get_within rows k row stands)

-- ---- the table

number-first : (f : ℕ → Bool) (n : ℕ) → number_by f (suc n) ≡ bit_of (f 0) + 2 * number_by (λ i. f (i + 1)) n
unfolding number_by
number-first f n = refl

-- a row more
pub table-next : (f : ℕ → Bool) (k : ℕ) → k < 64 → 2 * number_by (λ i. f (suc k + i)) (64 - suc k) + bit_of (f k) ≡ number_by (λ i. f (k + i)) (64 - k)
table-next f k low =
    let zero_more : k + 0 ≡ k = omega arith in
    let count : 64 - k ≡ suc (64 - suc k) = omega arith in
    let rest : number_by (λ i. f (k + (i + 1))) (64 - suc k) ≡ number_by (λ i. f (suc k + i)) (64 - suc k) = number_same (λ i. f (k + (i + 1))) (λ i. f (suc k + i)) (64 - suc k) (λ i h. let e : k + (i + 1) ≡ suc k + i = omega arith in ap f e) in
    let first = ap (λ n. number_by (λ i. f (k + i)) n) count ∙ number-first (λ i. f (k + i)) (64 - suc k) in
    let bit : bit_of (f (k + 0)) ≡ bit_of (f k) = ap (λ j. bit_of (f j)) zero_more in
    omega arith

-- the row before the last one that was taken
pub table-step : (f : ℕ → Bool) (now table bit : ℕ) → 0 < now → now ≤ 64 → table ≡ number_by (λ i. f (now + i)) (64 - now) → bit ≡ bit_of (f (now - 1)) → (2 * table + bit ≡ number_by (λ i. f ((now - 1) + i)) (64 - (now - 1))) × (2 * table + bit < 2 ^ 64)
table-step f now table bit some few is last =
    let next : suc (now - 1) ≡ now = omega arith in
    let before : table ≡ number_by (λ i. f (suc (now - 1) + i)) (64 - suc (now - 1)) = is ∙ ap (λ n. number_by (λ i. f (n + i)) (64 - n)) (sym next) in
    let e = table-next f (now - 1) (omega arith) in
    let here : 2 * table + bit ≡ number_by (λ i. f ((now - 1) + i)) (64 - (now - 1)) = omega arith in
    let h = number_below (λ i. f ((now - 1) + i)) (64 - (now - 1)) in
    let m : 2 ^ (64 - (now - 1)) ≤ 2 ^ 64 = pow_mono {i = 64 - (now - 1)} {j = 64} (omega arith) in
    (here, omega arith)

pub byte-bit : (b : Bool) → from_bool b ≡ bit_of b
byte-bit true = refl
byte-bit false = refl

pub table-none : (f : ℕ → Bool) → 0 ≡ number_by f 0
unfolding number_by
table-none f = refl
