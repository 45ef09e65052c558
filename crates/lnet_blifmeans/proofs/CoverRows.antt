-- A cover with a row for each true one has the value of the row that its operands make.
use Rattle.std.proofs.Common.{◌≡◌, eq-eqb, ◌≢◌, ℕ, zero, suc, ◌+◌, ◌*◌, ◌/◌, ◌%◌, ◌^◌, ◌<◌, ◌≤◌, Bool, true, false, cond, eqb, List, [], ◌∷◌, length, map, refl, sym, ap, ◌∙◌, inl, inr, arith}
use Rattle.std.specs.Prelude.{◌⊎◌, ◌&&◌, ◌||◌, if◌then◌else◌}
use Rattle.std.specs.List.{list_any, filter, range_with_len}
use Rattle.std.proofs.Math.Nat.{pow-suc}
use Rattle.std.proofs.lemmas.Bool.{ne_eqb}
use Rattle.std.proofs.lemmas.Bool.Decides.{eqb_tells}
use Rattle.lnet_edge.specs.Values.{row_number, cell_holds, row_holds, cover_value}
use Rattle.lnet_blifwriter.specs.Texts.{row_cells}
use Rattle.lnet_benchtext.proofs.Cutting.{not_none}
use Rattle.lnet_bliftext.specs.Written.{true_rows}
use Rattle.lnet_blifmeans.proofs.Shape.{true_cover}

-- ---- the row that holds

pub row_below : (bits : List Bool) → row_number bits < 2 ^ length bits
row_below [] = omega arith
row_below (b ∷ bs) =
    let low = row_below bs in
    let more = pow-suc 2 (length bs) in
    by b more low
  where
    by : (t : Bool) → 2 ^ suc (length bs) ≡ 2 ^ length bs * 2 → row_number bs < 2 ^ length bs → (if t then 1 else 0) + 2 * row_number bs < 2 ^ suc (length bs)
    by true more low = omega arith
    by false more low = omega arith

bit_tells : (r n : ℕ) (b : Bool) (bit : ℕ) → r % 2 ≡ bit → bit < 2 → (cell_holds (if eqb bit 1 then 49 else 48) b && eqb (r / 2) n) ≡ eqb r ((if b then 1 else 0) + 2 * n)
bit_tells r n true zero is low = sym (ne_eqb r (1 + 2 * n) (λ e. omega arith))
bit_tells r n false zero is low = by (eqb_tells (r / 2) n) where
  by : ((eqb (r / 2) n ≡ true) × (r / 2 ≡ n)) ⊎ ((eqb (r / 2) n ≡ false) × (r / 2 ≢ n)) → eqb (r / 2) n ≡ eqb r (0 + 2 * n)
  by (inl h) = let same : r ≡ 0 + 2 * n = omega arith in h.0 ∙ sym (eq-eqb r (0 + 2 * n) same)
  by (inr h) = let other = h.1 in h.0 ∙ sym (ne_eqb r (0 + 2 * n) (λ e. other (omega arith)))
bit_tells r n true (suc zero) is low = by (eqb_tells (r / 2) n) where
  by : ((eqb (r / 2) n ≡ true) × (r / 2 ≡ n)) ⊎ ((eqb (r / 2) n ≡ false) × (r / 2 ≢ n)) → eqb (r / 2) n ≡ eqb r (1 + 2 * n)
  by (inl h) = let same : r ≡ 1 + 2 * n = omega arith in h.0 ∙ sym (eq-eqb r (1 + 2 * n) same)
  by (inr h) = let other = h.1 in h.0 ∙ sym (ne_eqb r (1 + 2 * n) (λ e. other (omega arith)))
bit_tells r n false (suc zero) is low = sym (ne_eqb r (0 + 2 * n) (λ e. omega arith))
bit_tells r n b (suc (suc k)) is low = absurd (omega arith)

-- a row holds where it is that of the operands' values
pub row_tells : (k r : ℕ) (bits : List Bool) → r < 2 ^ k → length bits ≡ k → row_holds (row_cells k r) bits ≡ eqb r (row_number bits)
row_tells zero r [] low same = sym (eq-eqb r 0 (omega arith))
row_tells zero r (b ∷ bs) low same = absurd (omega arith)
row_tells (suc k) r [] low same = absurd (omega arith)
row_tells (suc k) r (b ∷ bs) low same =
    let more = pow-suc 2 k in
    ap (λ (t : Bool). cell_holds (if eqb (r % 2) 1 then 49 else 48) b && t) (row_tells k (r / 2) bs (omega arith) (omega arith)) ∙ bit_tells r (row_number bs) b (r % 2) refl (omega arith)

-- ---- rows among others

-- the test of a row that is another than this one
misses : (p : ℕ → Bool) (n a : ℕ) → p a ≡ eqb a n → a ≢ n → p a ≡ false
misses p n a tells apart = tells ∙ ne_eqb a n apart

any_kept : (p value : ℕ → Bool) (a : ℕ) (rows : List ℕ) → p a ≡ false → list_any p (cond (value a) (a ∷ rows) rows) ≡ list_any p rows
any_kept p value a rows none = elim (value a) as (λ b. list_any p (cond b (a ∷ rows) rows) ≡ list_any p rows) [ true ↦ ap (λ (t : Bool). t || list_any p rows) none | false ↦ refl ]

none_below : (p value : ℕ → Bool) (n a m : ℕ) → ((r : ℕ) → r < a + m → p r ≡ eqb r n) → n < a → list_any p (filter value (range_with_len a m)) ≡ false
none_below p value n a zero tells low = refl
none_below p value n a (suc m) tells low =
    any_kept p value a (filter value (range_with_len (a + 1) m)) (misses p n a (tells a (omega arith)) (λ e. omega arith)) ∙ none_below p value n (a + 1) m (λ r h. tells r (omega arith)) (omega arith)

-- of the true rows the one with this number holds, where it is one
one_among : (p value : ℕ → Bool) (n a m : ℕ) → ((r : ℕ) → r < a + m → p r ≡ eqb r n) → a ≤ n → n < a + m → list_any p (filter value (range_with_len a m)) ≡ value n
one_among p value n a zero tells low high = absurd (omega arith)
one_among p value n a (suc m) tells low high = elim (eqb_tells a n) as (λ _. list_any p (filter value (range_with_len a (suc m))) ≡ value n) [
  | inl h ↦
      let here : p a ≡ true = tells a (omega arith) ∙ h.0 in
      let later : list_any p (filter value (range_with_len (a + 1) m)) ≡ false = (let same = h.1 in none_below p value n (a + 1) m (λ r g. tells r (omega arith)) (omega arith)) in
      first (value a) here later ∙ ap value h.1
  | inr h ↦ any_kept p value a (filter value (range_with_len (a + 1) m)) (misses p n a (tells a (omega arith)) h.1) ∙ one_among p value n (a + 1) m (λ r g. tells r (omega arith)) (let other = h.1 in omega arith) (omega arith)
]
  where
    first : (b : Bool) → p a ≡ true → list_any p (filter value (range_with_len (a + 1) m)) ≡ false → list_any p (cond b (a ∷ filter value (range_with_len (a + 1) m)) (filter value (range_with_len (a + 1) m))) ≡ b
    first true here later = ap (λ (t : Bool). t || list_any p (filter value (range_with_len (a + 1) m))) here
    first false here later = later

-- ---- covers

pub true_cover-value : (rows : List (List ℕ)) (bits : List Bool) → cover_value (true_cover rows) bits ≡ list_any (λ (row : List ℕ). row_holds row bits) rows
true_cover-value [] bits = refl
true_cover-value (row ∷ rows) bits = ap (λ (b : Bool). cond b false (list_any (λ (r : List ℕ). row_holds r bits) (row ∷ rows))) (not_none (length rows))

any_mapped : (f : ℕ → List ℕ) (p : List ℕ → Bool) (rows : List ℕ) → list_any p (map f rows) ≡ list_any (λ (r : ℕ). p (f r)) rows
any_mapped f p [] = refl
any_mapped f p (r ∷ rs) = ap (λ (b : Bool). p (f r) || b) (any_mapped f p rs)

-- with a row for each true one a cover is true where the row of its operands is
pub rows_value : (value : ℕ → Bool) (k : ℕ) (bits : List Bool) → length bits ≡ k → cover_value (true_cover (true_rows value k)) bits ≡ value (row_number bits)
rows_value value k bits same =
    let below : row_number bits < 0 + 2 ^ k = let low = row_below bits in let e = ap (λ (n : ℕ). 2 ^ n) same in omega arith in
    true_cover-value (true_rows value k) bits
    ∙ any_mapped (row_cells k) (λ (row : List ℕ). row_holds row bits) (filter value (range_with_len 0 (2 ^ k)))
    ∙ one_among (λ (r : ℕ). row_holds (row_cells k r) bits) value (row_number bits) 0 (2 ^ k) (λ r low. row_tells k r bits (omega arith) same) (omega arith) below
