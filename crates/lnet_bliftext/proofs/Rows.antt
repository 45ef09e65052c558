-- The rows of a cover whose target is true.
use Rattle.std.proofs.Common.{◌≡◌, eq-eqb, ℕ, zero, suc, ◌/◌, ◌%◌, Bool, true, false, cond, eqb, List, [], ◌∷◌, ◌++◌, length, Some, Ok, Err, codes, None, refl, sym, ap, ◌∙◌, arith}
use Rattle.std.specs.Prelude.{not, if◌then◌else◌}
use Rattle.std.specs.List.{list_all}
use Rattle.std.proofs.lemmas.Bool.Decides.{nat_tests}
use Rattle.lnet_edge.specs.declared.fault.Fault.TheVariants as faults
use Rattle.lnet_edge.specs.Covers.{CoverValue, is_cell, is_row}
use Rattle.lnet_words.specs.Cutting.{is_blank}
use Rattle.lnet_blif.specs.Listing.{Standing, AtFirst, AtOutside, AtInside, AtBehind, first_value, position_of}
use Rattle.lnet_blif.specs.Statements.{StatementValue, row_with, row_of, agrees, row_agreeing, row_at, command_at, command_of, statement_at, after}
use Rattle.lnet_blifwriter.specs.Texts.{row_cells}
use Rattle.lnet_benchtext.proofs.Cutting.{both_true, true_both, all-append, all_weaker, some_bytes, words_before}
use Rattle.lnet_bliftext.specs.Written.{true_row, row_words}
use Rattle.lnet_bliftext.proofs.WrittenNames.{is_kept_byte}
use Rattle.lnet_bliftext.proofs.Lines.{HasWords}

-- in a cover of so many operands, whose rows so far have a true target
abbrev pub IsInside : ℕ → Standing → Type 0
IsInside k AtFirst = ⊥
IsInside k AtOutside = ⊥
IsInside k (AtInside t) = (length t.operands ≡ k) × (agrees (first_value t.cover.value t.cover.rows) true ≡ true)
IsInside k AtBehind = ⊥

-- behind the statement the position is one of the kind
abbrev pub LeavesFor : (Standing → Type 0) → Standing → StatementValue → Type 0
LeavesFor At p s = (q : Standing) × (after (position_of p) s ≡ position_of q) × At q

-- a further row leaves the cover at its operands
pub stays : (k : ℕ) (cells : List ℕ) (p : Standing) → IsInside k p → LeavesFor (IsInside k) p (true_row cells)
stays k cells AtFirst at = absurd at
stays k cells AtOutside at = absurd at
stays k cells (AtInside t) at = by t.cover.rows at.1 where
  inside : CoverValue → Standing
  inside cover = AtInside (record { target = t.target; operands = t.operands; cover = cover })

  by : (rows : List (List ℕ)) → agrees (first_value t.cover.value rows) true ≡ true → LeavesFor (IsInside k) (inside (record { value = t.cover.value; rows = rows })) (true_row cells)
  by [] agrees_so = (inside (record { value = true; rows = cells ∷ [] }), refl, (at.0, refl))
  by (row ∷ rows) agrees_so = (inside (record { value = t.cover.value; rows = row ∷ rows }), refl, (at.0, agrees_so))
stays k cells AtBehind at = absurd at

-- ---- what words say in a cover

row_says : (k : ℕ) (cells : List ℕ) (words : List (List ℕ)) (p : Standing) → row_of k words ≡ Some (record { cells = cells; value = true }) → IsInside k p → row_at (position_of p) words ≡ Ok (true_row cells)
row_says k cells words AtFirst is at = absurd at
row_says k cells words AtOutside is at = absurd at
row_says k cells words (AtInside t) is at =
    ap (λ (m : ℕ). row_agreeing (first_value t.cover.value t.cover.rows) (row_of m words)) at.0
    ∙ ap (row_agreeing (first_value t.cover.value t.cover.rows)) is
    ∙ ap (λ (b : Bool). cond b (Ok (true_row cells)) (Err faults.Cover)) at.1
row_says k cells words AtBehind is at = absurd at

line_says : (k : ℕ) (b : ℕ) (bs : List ℕ) (words : List (List ℕ)) (p : Standing) → IsInside k p → eqb b 46 ≡ false → statement_at (position_of p) ((b ∷ bs) ∷ words) ≡ row_at (position_of p) ((b ∷ bs) ∷ words)
unfolding statement_at
line_says k b bs words AtFirst at other = absurd at
line_says k b bs words AtOutside at other = absurd at
line_says k b bs words (AtInside t) at other = ap (λ (c : Bool). cond c (command_at (position_of (AtInside t)) (command_of (b ∷ bs)) words) (row_at (position_of (AtInside t)) ((b ∷ bs) ∷ words))) other
line_says k b bs words AtBehind at other = absurd at

-- ---- rows with cells

no_command : (b : ℕ) → is_cell b ≡ true → eqb b 46 ≡ false
no_command b e = grind (arith, nat_tests)

cell_kept : (b : ℕ) → is_cell b ≡ true → is_kept_byte b ≡ true
cell_kept b e = grind (arith, nat_tests)

cell_full : (b : ℕ) → is_cell b ≡ true → not (is_blank b) ≡ true
cell_full b e = grind (arith, nat_tests)

row_of-cells : (cells : List ℕ) → is_row cells ≡ true → row_of (length cells) (cells ∷ codes "1" ∷ []) ≡ Some (record { cells = cells; value = true })
row_of-cells cells row = ap (λ (t : Bool). cond t (row_with cells (Some true)) None) (true_both (eqb (length cells) (length cells)) (is_row cells) (eq-eqb (length cells) (length cells) refl) row)

pub cells_words : (b : ℕ) (bs : List ℕ) → is_row (b ∷ bs) ≡ true → HasWords ((b ∷ bs) ++ codes " 1") ((b ∷ bs) ∷ codes "1" ∷ [])
cells_words b bs row = record {
  bytes = all-append is_kept_byte (b ∷ bs) (codes " 1") (all_weaker is_cell is_kept_byte (b ∷ bs) cell_kept row) refl;
  cut = words_before (b ∷ bs) (codes "1") (record { some = some_bytes b bs; whole = all_weaker is_cell (λ c. not (is_blank c)) (b ∷ bs) cell_full row });
}

-- ---- rows of so many operands

pub row_is_said : (k : ℕ) (row : List ℕ) (p : Standing) → is_row row ≡ true → length row ≡ k → IsInside k p → statement_at (position_of p) (row_words row true) ≡ Ok (true_row row)
row_is_said k [] p row same at = line_says k 49 [] [] p at refl ∙ row_says k [] (codes "1" ∷ []) p (ap (λ (m : ℕ). row_of m (codes "1" ∷ [])) (sym same)) at
row_is_said k (b ∷ bs) p row same at =
    line_says k b bs (codes "1" ∷ []) p at (no_command b (both_true (is_cell b) (list_all is_cell bs) row).0) ∙ row_says k (b ∷ bs) ((b ∷ bs) ∷ codes "1" ∷ []) p (ap (λ (m : ℕ). row_of m ((b ∷ bs) ∷ codes "1" ∷ [])) (sym same) ∙ row_of-cells (b ∷ bs) row) at

-- ---- the rows of a gate

bit_cell : (p : ℕ → Bool) (b : Bool) → p 49 ≡ true → p 48 ≡ true → p (if b then 49 else 48) ≡ true
bit_cell p true one none = one
bit_cell p false one none = none

pub row_cells-row : (k row : ℕ) → is_row (row_cells k row) ≡ true
row_cells-row zero row = refl
row_cells-row (suc k) row = true_both (is_cell (if eqb (row % 2) 1 then 49 else 48)) (is_row (row_cells k (row / 2))) (bit_cell is_cell (eqb (row % 2) 1) refl refl) (row_cells-row k (row / 2))

pub length-row_cells : (k row : ℕ) → length (row_cells k row) ≡ k
length-row_cells zero row = refl
length-row_cells (suc k) row = ap suc (length-row_cells k (row / 2))
