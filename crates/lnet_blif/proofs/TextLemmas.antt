-- A content line by line, and by its statements.
use Rattle.std.proofs.Common.{◌≡◌, ℕ, Bool, true, false, cond, eqb, List, [], ◌∷◌, length, None, Result, Ok, Err, refl, ap, ◌∙◌}
use Rattle.std.specs.Prelude.{suc}
use Rattle.lnet_edge.specs.declared.fault.Fault.{Fault}
use Rattle.lnet_edge.specs.declared.fault.Malformed.{Malformed}
use Rattle.lnet_bliflines.specs.Words.{LineWords}
use Rattle.lnet_blif.specs.declared.statements.Position.{Position}
use Rattle.lnet_blif.specs.declared.statements.Position.TheVariants.{Inside}
use Rattle.lnet_blif.specs.Statements.{RowValue, StatementValue, Model, Inputs, Outputs, Names, Row, End, first_of, behind_row, statement_at, after}
use Rattle.lnet_blif.specs.Listing.{Standing, AtFirst, AtOutside, AtInside, AtBehind, State, first_value, row_onto, with_row, position_of, uses_of, closed, add, add_all}
use Rattle.lnet_blif.specs.Texts.{with_first, then_later, statements_from}
use Rattle.lnet_blif.specs.Reading.{added, onward, lines_after}
use Rattle.lnet_wires.specs.Naming.{with_name}

-- ---- positions

length-uses : (names xs : List (List ℕ)) → length (uses_of names xs) ≡ length xs
length-uses names [] = refl
length-uses names (x ∷ xs) = ap suc (length-uses (with_name names x) xs)

first_onto : (value : Bool) (rs : List (List ℕ)) (row : RowValue) → first_value (row_onto value rs row).value (row_onto value rs row).rows ≡ first_of (first_value value rs) row.value
first_onto value [] row = refl
first_onto value (r ∷ rs) row = refl

row_position : (p : Standing) (row : RowValue) → position_of (with_row p row) ≡ behind_row (position_of p) row
row_position AtFirst row = refl
row_position AtOutside row = refl
row_position (AtInside t) row = ap (Inside (length t.operands)) (first_onto t.cover.value t.cover.rows row)
row_position AtBehind row = refl

add_position : (s : State) (t : StatementValue) → position_of (add s t).place ≡ after (position_of s.place) t
add_position s Model = refl
add_position s (Inputs xs) = refl
add_position s (Outputs xs) = refl
add_position s (Names operands target) = ap (λ (n : ℕ). Inside n None) (length-uses (closed s.lists s.place).names operands)
add_position s (Row row) = row_position s.place row
add_position s End = refl

-- ---- statements

-- the lists of statements, where they were read
abbrev pub listed : State → Result (List StatementValue) Malformed → Result State Malformed
listed s (Ok ts) = Ok (add_all s ts)
listed s (Err fault) = Err fault

listed_first : (s : State) (t : StatementValue) (r : Result (List StatementValue) Malformed) → listed (add s t) r ≡ listed s (with_first t r)
listed_first s t (Ok ts) = refl
listed_first s t (Err fault) = refl

one_line : (s : State) (n : ℕ) (ls : List (Result LineWords Malformed)) (r : Result StatementValue Fault) → ((t : StatementValue) → lines_after (add s t) ls ≡ listed (add s t) (statements_from (position_of (add s t).place) ls))
    → onward (added n s r) (λ t. lines_after t ls) ≡ listed s (then_later n r (λ t. statements_from (after (position_of s.place) t) ls))
one_line s n ls (Err kind) later = refl
one_line s n ls (Ok t) later =
    later t
    ∙ ap (λ (p : Position). listed (add s t) (statements_from p ls)) (add_position s t)
    ∙ listed_first s t (statements_from (after (position_of s.place) t) ls)

pub by_statements : (s : State) (ls : List (Result LineWords Malformed)) → lines_after s ls ≡ listed s (statements_from (position_of s.place) ls)
by_statements s [] = refl
by_statements s (Err fault ∷ ls) = refl
by_statements s (Ok line ∷ ls) =
    elim (eqb (length line.words) 0) as (λ b. onward (cond b (Ok s) (added line.number s (statement_at (position_of s.place) line.words))) (λ t. lines_after t ls)
    ≡ listed s (cond b (statements_from (position_of s.place) ls) (then_later line.number (statement_at (position_of s.place) line.words) (λ t. statements_from (after (position_of s.place) t) ls)))) [
      | true ↦ by_statements s ls
      | false ↦ one_line s line.number ls (statement_at (position_of s.place) line.words) (λ t. by_statements (add s t) ls)
    ]
