-- The statements of lines fit: ports have names, and rows are rows of their covers.
use Rattle.std.proofs.Common.{◌≡◌, ℕ, Bool, true, false, cond, eqb, List, [], ◌∷◌, length, take, Option, Some, None, Result, Ok, Err, refl, sym, ap, subst}
use Rattle.std.specs.Prelude.{◌&&◌, nat_le, slice_index_or, IsTrue, ◌-◌}
use Rattle.std.specs.List.{list_all}
use Rattle.std.proofs.lemmas.Bool.{eqb-true}
use Rattle.lnet_edge.specs.declared.fault.Fault.{Fault}
use Rattle.lnet_edge.specs.declared.fault.Fault.TheVariants as faults
use Rattle.lnet_edge.specs.Covers.{is_row}
use Rattle.lnet_bliflines.specs.Words.{is_word}
use Rattle.lnet_blif.specs.declared.statements.Command.{Command}
use Rattle.lnet_blif.specs.declared.statements.Command.TheVariants as commands
use Rattle.lnet_blif.specs.declared.statements.Position.{Position}
use Rattle.lnet_blif.specs.declared.statements.Position.TheVariants.{First, Outside, Inside, Behind}
use Rattle.lnet_blif.specs.Statements.{RowValue, StatementValue, Model, Inputs, Outputs, Names, Row, End, bit_of, row_with, row_of, agrees, row_agreeing, row_at, is_command, command_of, model_at, command_at, line_at, is_behind, statement_at}
use Rattle.lnet_blif.specs.Listing.{names_fit, RowFits, Fits}
use Rattle.lnet_blif.proofs.NameBytes.{both_true}

abbrev says : StatementValue → Result StatementValue Fault
says s = Ok s

said : (s t : StatementValue) → says s ≡ Ok t → s ≡ t
said s t e = cc

-- one choice after the other
choose : (P : StatementValue → Type 0) (b : Bool) (here rest : Result StatementValue Fault) → ((s : StatementValue) → here ≡ Ok s → P s) → ((s : StatementValue) → rest ≡ Ok s → P s) → (s : StatementValue) → cond b here rest ≡ Ok s → P s
choose P true here rest one other s e = one s e
choose P false here rest one other s e = other s e

refused : (P : StatementValue → Type 0) (f : Fault) (s : StatementValue) → Err f ≡ Ok s → P s
refused P f s e = absurd cc

answered : (P : StatementValue → Type 0) (t : StatementValue) → P t → (s : StatementValue) → says t ≡ Ok s → P s
answered P t h s e = subst P (said t s e) h

-- ---- rows

abbrev row_is : RowValue → Option RowValue
row_is row = Some row

row_same : (a b : RowValue) → row_is a ≡ Some b → a ≡ b
row_same a b e = cc

with_cells : (cells : List ℕ) (o : Option Bool) (row : RowValue) → row_with cells o ≡ Some row → cells ≡ row.cells
with_cells cells None row e = absurd cc
with_cells cells (Some value) row e = ap (λ (r : RowValue). r.cells) (row_same (record { cells = cells; value = value }) row e)

abbrev IsRowOf : ℕ → RowValue → Type 0
IsRowOf n row = IsTrue (is_row row.cells) × (length row.cells ≡ n)

cells_fit : (n : ℕ) (cells : List ℕ) (row : RowValue) → IsTrue (is_row cells) → length cells ≡ n → cells ≡ row.cells → IsRowOf n row
cells_fit n cells row is len same = subst (λ (cs : List ℕ). IsTrue (is_row cs) × (length cs ≡ n)) same (is, len)

row_of_fits : (n : ℕ) (words : List (List ℕ)) (row : RowValue) → row_of n words ≡ Some row → IsRowOf n row
row_of_fits n [] row e = absurd cc
row_of_fits n (value ∷ []) row e =
    elim (eqb n 0) as (λ b. eqb n 0 ≡ b → cond b (row_with [] (bit_of value)) None ≡ Some row → IsRowOf n row) [
      | true ↦ λ t h. cells_fit n [] row refl (sym (eqb-true n 0 t)) (with_cells [] (bit_of value) row h)
      | false ↦ λ t h. absurd cc
    ] refl e
row_of_fits n (cells ∷ value ∷ []) row e =
    elim (eqb (length cells) n && is_row cells) as (λ b. (eqb (length cells) n && is_row cells) ≡ b → cond b (row_with cells (bit_of value)) None ≡ Some row → IsRowOf n row) [
      | true ↦ λ t h. let two = both_true (eqb (length cells) n) (is_row cells) t in cells_fit n cells row two.1 (eqb-true (length cells) n two.0) (with_cells cells (bit_of value) row h)
      | false ↦ λ t h. absurd cc
    ] refl e
row_of_fits n (cells ∷ value ∷ more ∷ words) row e = absurd cc

agreeing_fits : (n : ℕ) (first : Option Bool) (words : List (List ℕ)) (o : Option RowValue) → row_of n words ≡ o → (s : StatementValue) → row_agreeing first o ≡ Ok s → RowFits (Inside n first) s
agreeing_fits n first words None is s e = refused (RowFits (Inside n first)) faults.Cover s e
agreeing_fits n first words (Some row) is s e = choose (RowFits (Inside n first)) (agrees first row.value) (Ok (Row row)) (Err faults.Cover) (answered (RowFits (Inside n first)) (Row row) (row_of_fits n words row is)) (refused (RowFits (Inside n first)) faults.Cover) s e

row_at_fits : (p : Position) (words : List (List ℕ)) (s : StatementValue) → row_at p words ≡ Ok s → RowFits p s
row_at_fits First words s e = refused (RowFits First) faults.Syntax s e
row_at_fits Outside words s e = refused (RowFits Outside) faults.Syntax s e
row_at_fits (Inside n first) words s e = agreeing_fits n first words (row_of n words) refl s e
row_at_fits Behind words s e = refused (RowFits Behind) faults.Syntax s e

-- ---- commands

model_any : (P : StatementValue → Type 0) (p : Position) (names : List (List ℕ)) → P Model → (s : StatementValue) → model_at p names ≡ Ok s → P s
model_any P First names h s e = choose P (nat_le (length names) 1) (Ok Model) (Err faults.Syntax) (answered P Model h) (refused P faults.Syntax) s e
model_any P Outside names h s e = refused P faults.Unsupported s e
model_any P (Inside n first) names h s e = refused P faults.Unsupported s e
model_any P Behind names h s e = refused P faults.Unsupported s e

command_any : (P : StatementValue → Type 0) (p : Position) (names : List (List ℕ)) → P Model → P (Inputs names) → P (Outputs names) → ((operands : List (List ℕ)) (target : List ℕ) → P (Names operands target)) → P End → (c : Command) (s : StatementValue) → command_at p c names ≡ Ok s → P s
command_any P p names m i o n d commands.Model s e = model_any P p names m s e
command_any P p names m i o n d commands.Inputs s e = answered P (Inputs names) i s e
command_any P p names m i o n d commands.Outputs s e = answered P (Outputs names) o s e
command_any P p names m i o n d commands.Names s e = choose P (eqb (length names) 0) (Err faults.Syntax) (Ok (Names (take (length names - 1) names) (slice_index_or names (length names - 1) []))) (refused P faults.Syntax) (answered P (Names (take (length names - 1) names) (slice_index_or names (length names - 1) [])) (n (take (length names - 1) names) (slice_index_or names (length names - 1) []))) s e
command_any P p names m i o n d commands.Latch s e = refused P faults.Sequential s e
command_any P p names m i o n d commands.End s e = choose P (eqb (length names) 0) (Ok End) (Err faults.Syntax) (answered P End d) (refused P faults.Syntax) s e
command_any P p names m i o n d commands.Other s e = refused P faults.Unsupported s e

-- ---- statements

line_rows : (p : Position) (words : List (List ℕ)) (s : StatementValue) → line_at p words ≡ Ok s → RowFits p s
line_rows p [] s e = refused (RowFits p) faults.Syntax s e
line_rows p (word ∷ words) s e = choose (RowFits p) (is_command word) (command_at p (command_of word) words) (row_at p (word ∷ words)) (command_any (RowFits p) p words tt tt tt (λ _ _. tt) tt (command_of word)) (row_at_fits p (word ∷ words)) s e

abbrev NamesFit : StatementValue → Type 0
NamesFit s = IsTrue (names_fit s)

agreeing_names : (first : Option Bool) (o : Option RowValue) (s : StatementValue) → row_agreeing first o ≡ Ok s → NamesFit s
agreeing_names first None s e = refused NamesFit faults.Cover s e
agreeing_names first (Some row) s e = choose NamesFit (agrees first row.value) (Ok (Row row)) (Err faults.Cover) (answered NamesFit (Row row) refl) (refused NamesFit faults.Cover) s e

row_names : (p : Position) (words : List (List ℕ)) (s : StatementValue) → row_at p words ≡ Ok s → NamesFit s
row_names First words s e = refused NamesFit faults.Syntax s e
row_names Outside words s e = refused NamesFit faults.Syntax s e
row_names (Inside n first) words s e = agreeing_names first (row_of n words) s e
row_names Behind words s e = refused NamesFit faults.Syntax s e

line_names : (p : Position) (words : List (List ℕ)) (s : StatementValue) → IsTrue (list_all is_word words) → line_at p words ≡ Ok s → NamesFit s
line_names p [] s all e = refused NamesFit faults.Syntax s e
line_names p (word ∷ words) s all e =
    let rest = (both_true (is_word word) (list_all is_word words) all).1 in
    choose NamesFit (is_command word) (command_at p (command_of word) words) (row_at p (word ∷ words)) (command_any NamesFit p words refl rest rest (λ _ _. refl) refl (command_of word)) (row_names p (word ∷ words)) s e

pub statement_rows : (p : Position) (words : List (List ℕ)) (s : StatementValue) → statement_at p words ≡ Ok s → RowFits p s
unfolding statement_at
statement_rows p words s e = choose (RowFits p) (is_behind p) (Err faults.Unsupported) (line_at p words) (refused (RowFits p) faults.Unsupported) (line_rows p words) s e

statement_fits : (p : Position) (words : List (List ℕ)) (s : StatementValue) → IsTrue (list_all is_word words) → statement_at p words ≡ Ok s → Fits p s
unfolding statement_at
statement_fits p words s all e = record {
  names = choose NamesFit (is_behind p) (Err faults.Unsupported) (line_at p words) (refused NamesFit faults.Unsupported) (λ t h. line_names p words t all h) s e;
  row = statement_rows p words s e;
}

-- the same of words and a position that are these
pub fits_there : (p q : Position) (words xs : List (List ℕ)) (s : StatementValue) → p ≡ q → words ≡ xs → IsTrue (list_all is_word xs) → statement_at p words ≡ Ok s → Fits q s
fits_there p q words xs s there same all e = subst (λ (r : Position). Fits r s) there (statement_fits p words s (subst (λ (ws : List (List ℕ)). IsTrue (list_all is_word ws)) (sym same) all) e)
