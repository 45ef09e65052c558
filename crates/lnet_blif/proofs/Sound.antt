-- Each row of each cover has a byte for each operand.
use Rattle.std.proofs.Common.{◌≡◌, ℕ, zero, suc, Bool, true, false, cond, eqb, List, [], ◌∷◌, length, Result, Ok, Err, refl, sym, subst, arith}
use Rattle.std.specs.Prelude.{All}
use Rattle.std.proofs.lemmas.List.Elements.{All-append}
use Rattle.lnet_edge.specs.declared.fault.Fault.{Fault}
use Rattle.lnet_edge.specs.declared.fault.Malformed.{Malformed}
use Rattle.lnet_edge.specs.Circuits.{EquationValue}
use Rattle.lnet_edge.specs.Wires.{HasArity, HasArities}
use Rattle.lnet_bliflines.specs.Words.{LineWords}
use Rattle.lnet_blif.specs.Statements.{RowValue, StatementValue, Model, Inputs, Outputs, Names, Row, End, statement_at}
use Rattle.lnet_blif.specs.Numbering.{cover_equation}
use Rattle.lnet_blif.specs.Listing.{Listed, Standing, AtFirst, AtOutside, AtInside, AtBehind, State, row_onto, with_row, position_of, add_input, add_inputs, add_output, add_outputs, table_of, closed, commanded, add, IsSound, RowFits}
use Rattle.lnet_blif.specs.Reading.{added, line_after, onward, lines_after, start}
use Rattle.lnet_blif.proofs.Fitting.{statement_rows}

abbrev pub Sound : State → Type 0
Sound s = IsSound s.lists s.place

only : {A : Type 0} (P : A → Type 0) (x : A) → P x → All P (x ∷ [])
only P x h zero d lt = h
only P x h (suc k) d lt = absurd (omega arith)

none : {A : Type 0} (P : A → Type 0) → All P []
none P k d lt = absurd (omega arith)

abbrev Suits : EquationValue → Type 0
Suits e = HasArity e.rule (length e.operands)

pub closed_arities : (l : Listed) (p : Standing) → IsSound l p → HasArities (closed l p).equations
closed_arities l AtFirst is = is.equations
closed_arities l AtOutside is = is.equations
closed_arities l (AtInside t) is = All-append Suits l.equations (cover_equation t.target t.cover t.operands ∷ []) is.equations (only Suits (cover_equation t.target t.cover t.operands) is.rows)
closed_arities l AtBehind is = is.equations

inputs_equations : (l : Listed) (xs : List (List ℕ)) → (add_inputs l xs).equations ≡ l.equations
inputs_equations l [] = refl
inputs_equations l (x ∷ xs) = inputs_equations (add_input l x) xs

outputs_equations : (l : Listed) (xs : List (List ℕ)) → (add_outputs l xs).equations ≡ l.equations
outputs_equations l [] = refl
outputs_equations l (x ∷ xs) = outputs_equations (add_output l x) xs

commanded_sound : (l : Listed) (t : StatementValue) → HasArities l.equations → Sound (commanded l t)
commanded_sound l Model all = record { equations = all; rows = tt }
commanded_sound l (Inputs xs) all = record { equations = subst HasArities (sym (inputs_equations l xs)) all; rows = tt }
commanded_sound l (Outputs xs) all = record { equations = subst HasArities (sym (outputs_equations l xs)) all; rows = tt }
commanded_sound l (Names operands target) all = record { equations = all; rows = none (λ (row : List ℕ). length row ≡ length (table_of l.names operands target).operands) }
commanded_sound l (Row row) all = record { equations = all; rows = tt }
commanded_sound l End all = record { equations = all; rows = tt }

rows_onto : (n : ℕ) (value : Bool) (rs : List (List ℕ)) (row : RowValue) → length row.cells ≡ n → All (λ (r : List ℕ). length r ≡ n) rs → All (λ (r : List ℕ). length r ≡ n) (row_onto value rs row).rows
rows_onto n value [] row len all = only (λ (r : List ℕ). length r ≡ n) row.cells len
rows_onto n value (r ∷ rs) row len all = All-append (λ (x : List ℕ). length x ≡ n) (r ∷ rs) (row.cells ∷ []) all (only (λ (x : List ℕ). length x ≡ n) row.cells len)

row_sound : (l : Listed) (p : Standing) (row : RowValue) → IsSound l p → RowFits (position_of p) (Row row) → IsSound l (with_row p row)
row_sound l AtFirst row is fits = is
row_sound l AtOutside row is fits = is
row_sound l (AtInside t) row is fits = record { equations = is.equations; rows = rows_onto (length t.operands) t.cover.value t.cover.rows row fits.1 is.rows }
row_sound l AtBehind row is fits = is

add_sound : (s : State) (t : StatementValue) → Sound s → RowFits (position_of s.place) t → Sound (add s t)
add_sound s Model is fits = commanded_sound (closed s.lists s.place) Model (closed_arities s.lists s.place is)
add_sound s (Inputs xs) is fits = commanded_sound (closed s.lists s.place) (Inputs xs) (closed_arities s.lists s.place is)
add_sound s (Outputs xs) is fits = commanded_sound (closed s.lists s.place) (Outputs xs) (closed_arities s.lists s.place is)
add_sound s (Names operands target) is fits = commanded_sound (closed s.lists s.place) (Names operands target) (closed_arities s.lists s.place is)
add_sound s (Row row) is fits = row_sound s.lists s.place row is fits
add_sound s End is fits = commanded_sound (closed s.lists s.place) End (closed_arities s.lists s.place is)

abbrev made : State → Result State Malformed
made s = Ok s

made_is : (s t : State) → made s ≡ made t → s ≡ t
made_is s t e = cc

added_sound : (n : ℕ) (s : State) (r : Result StatementValue Fault) → ((t : StatementValue) → r ≡ Ok t → RowFits (position_of s.place) t) → Sound s → (u : State) → added n s r ≡ Ok u → Sound u
added_sound n s (Ok t) fits is u e = subst Sound (made_is (add s t) u e) (add_sound s t is (fits t refl))
added_sound n s (Err kind) fits is u e = absurd cc

line_sound : (s : State) (line : LineWords) → Sound s → (u : State) → line_after s line ≡ Ok u → Sound u
line_sound s line is u e =
    elim (eqb (length line.words) 0) as (λ b. cond b (Ok s) (added line.number s (statement_at (position_of s.place) line.words)) ≡ Ok u → Sound u) [
      | true ↦ λ h. subst Sound (made_is s u h) is
      | false ↦ λ h. added_sound line.number s (statement_at (position_of s.place) line.words) (statement_rows (position_of s.place) line.words) is u h
    ] e

onward_sound : (r : Result State Malformed) (go : State → Result State Malformed) → ((t : State) → r ≡ Ok t → Sound t) → ((t : State) → Sound t → (u : State) → go t ≡ Ok u → Sound u) → (u : State) → onward r go ≡ Ok u → Sound u
onward_sound (Ok t) go one rest u e = rest t (one t refl) u e
onward_sound (Err fault) go one rest u e = absurd cc

pub lines_sound : (s : State) (ls : List (Result LineWords Malformed)) → Sound s → (u : State) → lines_after s ls ≡ Ok u → Sound u
lines_sound s [] is u e = subst Sound (made_is s u e) is
lines_sound s (Err fault ∷ ls) is u e = absurd cc
lines_sound s (Ok line ∷ ls) is u e = onward_sound (line_after s line) (λ t. lines_after t ls) (line_sound s line is) (λ t. lines_sound t ls) u e

pub start_sound : Sound start
start_sound = record { equations = none Suits; rows = tt }
