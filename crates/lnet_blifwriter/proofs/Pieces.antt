-- Texts that are written piece by piece.
use Rattle.std.proofs.Common.{◌≡◌, ℕ, suc, Option, ◌+◌, ◌-◌, ◌/◌, ◌<◌, Bool, List, [], ◌∷◌, ◌++◌, sym, ap, ◌∙◌, append_assoc, arith, ◌⊎◌, inl, inr, refl}
use Rattle.std.specs.Prelude.{if◌then◌else◌}
use Rattle.std.specs.List.{range_with_len}
use Rattle.std.proofs.lemmas.List.{append-nil}
use Rattle.lnet_edge.specs.declared.circuit.OutputPort.{OutputPort}
use Rattle.lnet_blifwriter.specs.Texts.{row_cells, row_line, rows_text, outputs_text}

-- a text and what comes after it, a piece further
pub onward : (before after piece rest now total : List ℕ) → after ≡ before ++ piece → now ≡ piece ++ rest → before ++ now ≡ total → after ++ rest ≡ total
onward before after piece rest now total grown is so_far = ap (λ t. t ++ rest) grown ∙ append_assoc before piece rest ∙ ap (λ t. before ++ t) (sym is) ∙ so_far

pub next_cell : (operands done row : ℕ) → done < operands → row_cells (operands - done) row ≡ row_cells 1 row ++ row_cells (operands - (done + 1)) (row / 2)
next_cell operands done row lt =
    let more : operands - done ≡ suc (operands - (done + 1)) = omega arith in
    ap (λ k. row_cells k row) more

abbrev pub rows_due : (ℕ → Bool) → ℕ → ℕ → ℕ → List ℕ
rows_due value operands rows done = rows_text value operands (range_with_len done (rows - done))

pub next_row : (value : ℕ → Bool) (operands rows done : ℕ) → done < rows → rows_due value operands rows done ≡ (if value done then row_line operands done else []) ++ rows_due value operands rows (done + 1)
next_row value operands rows done lt =
    let more : rows - done ≡ suc (rows - (done + 1)) = omega arith in
    ap (λ k. rows_text value operands (range_with_len done k)) more

no_outputs : (label : ℕ → Option (List ℕ)) (names : List (List ℕ)) (ps : List OutputPort) → (names ≡ []) ⊎ (ps ≡ []) → outputs_text label names ps ≡ []
no_outputs label [] ps none = refl
no_outputs label (n ∷ ns) [] none = refl
no_outputs label (n ∷ ns) (p ∷ ps) (inl e) = absurd cc
no_outputs label (n ∷ ns) (p ∷ ps) (inr e) = absurd cc

-- no name or no output is left
pub outputs-end : (label : ℕ → Option (List ℕ)) (names : List (List ℕ)) (ps : List OutputPort) (text total : List ℕ) → (names ≡ []) ⊎ (ps ≡ []) → text ++ outputs_text label names ps ≡ total → text ≡ total
outputs-end label names ps text total none so_far = sym (append-nil text) ∙ ap (λ t. text ++ t) (sym (no_outputs label names ps none)) ∙ so_far
