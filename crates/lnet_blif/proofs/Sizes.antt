-- How many ports and covers statements add.
use Rattle.std.proofs.Common.{◌≡◌, ℕ, ◌+◌, ◌≤◌, List, [], ◌∷◌, length, refl, ◌∙◌, arith}
use Rattle.std.specs.Borrow.{Bor}
use Rattle.std.proofs.lemmas.List.{length-append, length-map}
use Rattle.lnet_bliflines.specs.Words.{word_lists}
use Rattle.lnet_blif.specs.declared.statements.Statement.{Statement}
use Rattle.lnet_blif.specs.declared.statements.Statement.TheVariants as statements
use Rattle.lnet_blif.specs.Statements.{RowValue}
use Rattle.lnet_blif.specs.Listing.{Listed, Standing, AtFirst, AtOutside, AtInside, AtBehind, State, with_row, add_input, add_inputs, add_output, add_outputs, closed, add, covers_at, size, statement_view, names_count}

abbrev pub ports : Listed → ℕ
ports l = length l.inputs + length l.outputs + length l.equations

inputs_ports : (l : Listed) (xs : List (List ℕ)) → ports (add_inputs l xs) ≡ ports l + length xs
inputs_ports l [] = omega arith
inputs_ports l (x ∷ xs) = inputs_ports (add_input l x) xs ∙ simp length-append (omega arith)

outputs_ports : (l : Listed) (xs : List (List ℕ)) → ports (add_outputs l xs) ≡ ports l + length xs
outputs_ports l [] = omega arith
outputs_ports l (x ∷ xs) = outputs_ports (add_output l x) xs ∙ simp length-append (omega arith)

pub closed_ports : (l : Listed) (p : Standing) → ports (closed l p) ≡ ports l + covers_at p
closed_ports l AtFirst = omega arith
closed_ports l AtOutside = omega arith
closed_ports l (AtInside t) = simp length-append (omega arith)
closed_ports l AtBehind = omega arith

row_covers : (p : Standing) (row : RowValue) → covers_at (with_row p row) ≡ covers_at p
row_covers AtFirst row = refl
row_covers AtOutside row = refl
row_covers (AtInside t) row = refl
row_covers AtBehind row = refl

few_names : (names : List (Bor (List ℕ))) → length (word_lists names) ≡ length names
few_names names = length-map names (λ word. word.now)

pub add_size : (s : State) (t : Statement) → size (add s (statement_view t)) ≤ size s + names_count t
add_size s statements.Model = omega (arith, closed_ports s.lists s.place)
add_size s (statements.Inputs names) = omega (arith, closed_ports s.lists s.place, inputs_ports (closed s.lists s.place) (word_lists names.now), few_names names.now)
add_size s (statements.Outputs names) = omega (arith, closed_ports s.lists s.place, outputs_ports (closed s.lists s.place) (word_lists names.now), few_names names.now)
add_size s (statements.Names operands target) = omega (arith, closed_ports s.lists s.place)
add_size s (statements.Row cells value) = omega (arith, row_covers s.place (record { cells = cells.now; value = value }))
add_size s statements.End = omega (arith, closed_ports s.lists s.place)
