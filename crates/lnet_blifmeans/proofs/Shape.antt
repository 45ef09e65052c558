-- The circuit of a written text, port by port and cover by cover.
use Rattle.std.proofs.Common.{◌≡◌, ℕ, true, List, [], ◌∷◌, ◌++◌, map, refl, ap, ◌∙◌, append_assoc}
use Rattle.std.specs.List.{flat_map}
use Rattle.std.proofs.lemmas.List.{append-nil}
use Rattle.lnet_edge.specs.declared.circuit.InputPort.{InputPort}
use Rattle.lnet_edge.specs.declared.circuit.OutputPort.{OutputPort}
use Rattle.lnet_edge.specs.Covers.{CoverValue}
use Rattle.lnet_edge.specs.Circuits.{EquationValue, CircuitValue}
use Rattle.lnet_wires.specs.Naming.{wire_of}
use Rattle.lnet_blif.specs.Statements.{RowValue, StatementValue, Model, Inputs, Outputs, Names, End}
use Rattle.lnet_blif.specs.Numbering.{use_of, input_of, output_of, rows_behind, cells_of, cover_of, cover_equation, inputs_by, outputs_by, equations_by, numbered}
use Rattle.lnet_bliftext.specs.Written.{CoverLines, true_row, cover_statements}
use Rattle.lnet_blifmeans.specs.Driving.{driven_names}

-- covers, and the end
abbrev pub closing : List CoverLines → List StatementValue
closing ks = flat_map cover_statements ks ++ End ∷ []

-- ports, covers, and the end
abbrev pub whole : List (List ℕ) → List (List ℕ) → List CoverLines → List StatementValue
whole ins outs ks = Model ∷ Inputs ins ∷ Outputs outs ∷ closing ks

abbrev pub cover_targets : List CoverLines → List (List ℕ)
cover_targets ks = map (λ (k : CoverLines). k.target) ks

-- the target is true at these rows, and else false
abbrev pub true_cover : List (List ℕ) → CoverValue
true_cover rows = record { value = true; rows = rows }

abbrev pub equation_of : List (List ℕ) → CoverLines → EquationValue
equation_of names k = cover_equation (wire_of names k.target) (true_cover k.rows) (map (use_of names) k.operands)

abbrev circuit_with : List InputPort → List OutputPort → List EquationValue → CircuitValue
circuit_with inputs outputs equations = record { inputs = inputs; outputs = outputs; equations = equations }

-- the circuit of these ports and covers
abbrev pub shaped : List (List ℕ) → List (List ℕ) → List (List ℕ) → List CoverLines → CircuitValue
shaped names ins outs ks = circuit_with (map (input_of names) ins) (map (output_of names) outs) (map (equation_of names) ks)

-- ---- the first of more covers

closing_step : (k : CoverLines) (ks : List CoverLines) → closing (k ∷ ks) ≡ Names k.operands k.target ∷ (map true_row k.rows ++ closing ks)
closing_step k ks = ap (λ (ss : List StatementValue). Names k.operands k.target ∷ ss) (append_assoc (map true_row k.rows) (flat_map cover_statements ks) (End ∷ []))

-- ---- no ports among covers

inputs_rows : (names rows : List (List ℕ)) (ss : List StatementValue) → inputs_by names (map true_row rows ++ ss) ≡ inputs_by names ss
inputs_rows names [] ss = refl
inputs_rows names (row ∷ rows) ss = inputs_rows names rows ss

inputs_none : (names : List (List ℕ)) (ks : List CoverLines) → inputs_by names (closing ks) ≡ []
inputs_none names [] = refl
inputs_none names (k ∷ ks) = ap (inputs_by names) (closing_step k ks) ∙ inputs_rows names k.rows (closing ks) ∙ inputs_none names ks

outputs_rows : (names rows : List (List ℕ)) (ss : List StatementValue) → outputs_by names (map true_row rows ++ ss) ≡ outputs_by names ss
outputs_rows names [] ss = refl
outputs_rows names (row ∷ rows) ss = outputs_rows names rows ss

outputs_none : (names : List (List ℕ)) (ks : List CoverLines) → outputs_by names (closing ks) ≡ []
outputs_none names [] = refl
outputs_none names (k ∷ ks) = ap (outputs_by names) (closing_step k ks) ∙ outputs_rows names k.rows (closing ks) ∙ outputs_none names ks

-- ---- the rows behind `.names`

abbrev row_with : List ℕ → RowValue
row_with cells = record { cells = cells; value = true }

none_behind : (ks : List CoverLines) → rows_behind (closing ks) ≡ []
none_behind [] = refl
none_behind (k ∷ ks) = ap rows_behind (closing_step k ks)

rows_are : (rows : List (List ℕ)) (ks : List CoverLines) → rows_behind (map true_row rows ++ closing ks) ≡ map row_with rows
rows_are [] ks = none_behind ks
rows_are (row ∷ rows) ks = ap (λ (rs : List RowValue). row_with row ∷ rs) (rows_are rows ks)

cells_are : (rows : List (List ℕ)) → cells_of (map row_with rows) ≡ rows
cells_are [] = refl
cells_are (row ∷ rows) = ap (λ (cs : List (List ℕ)). row ∷ cs) (cells_are rows)

cover_is : (rows : List (List ℕ)) → cover_of (map row_with rows) ≡ true_cover rows
cover_is [] = refl
cover_is (row ∷ rows) = ap true_cover (cells_are (row ∷ rows))

-- ---- covers are equations

equations_rows : (names rows : List (List ℕ)) (ss : List StatementValue) → equations_by names (map true_row rows ++ ss) ≡ equations_by names ss
equations_rows names [] ss = refl
equations_rows names (row ∷ rows) ss = equations_rows names rows ss

equations_are : (names : List (List ℕ)) (ks : List CoverLines) → equations_by names (closing ks) ≡ map (equation_of names) ks
equations_are names [] = refl
equations_are names (k ∷ ks) =
    ap (equations_by names) (closing_step k ks)
    ∙ ap (λ (cover : CoverValue). cover_equation (wire_of names k.target) cover (map (use_of names) k.operands) ∷ equations_by names (map true_row k.rows ++ closing ks)) (ap cover_of (rows_are k.rows ks) ∙ cover_is k.rows)
    ∙ ap (λ (es : List EquationValue). equation_of names k ∷ es) (equations_rows names k.rows (closing ks) ∙ equations_are names ks)

pub shape : (names ins outs : List (List ℕ)) (ks : List CoverLines) → numbered names (whole ins outs ks) ≡ shaped names ins outs ks
shape names ins outs ks =
    ap (λ (ps : List InputPort). circuit_with ps (outputs_by names (whole ins outs ks)) (equations_by names (closing ks))) (ap (λ (ps : List InputPort). map (input_of names) ins ++ ps) (inputs_none names ks) ∙ append-nil (map (input_of names) ins))
    ∙ ap (λ (ps : List OutputPort). circuit_with (map (input_of names) ins) ps (equations_by names (closing ks))) (ap (λ (ps : List OutputPort). map (output_of names) outs ++ ps) (outputs_none names ks) ∙ append-nil (map (output_of names) outs))
    ∙ ap (circuit_with (map (input_of names) ins) (map (output_of names) outs)) (equations_are names ks)

-- ---- the names that are driven

driven_rows : (rows : List (List ℕ)) (ss : List StatementValue) → driven_names (map true_row rows ++ ss) ≡ driven_names ss
driven_rows [] ss = refl
driven_rows (row ∷ rows) ss = driven_rows rows ss

driven_covers : (ks : List CoverLines) → driven_names (closing ks) ≡ cover_targets ks
driven_covers [] = refl
driven_covers (k ∷ ks) = ap driven_names (closing_step k ks) ∙ ap (λ (xs : List (List ℕ)). k.target ∷ xs) (driven_rows k.rows (closing ks) ∙ driven_covers ks)

pub driven_are : (ins outs : List (List ℕ)) (ks : List CoverLines) → driven_names (whole ins outs ks) ≡ ins ++ cover_targets ks
driven_are ins outs ks = ap (λ (xs : List (List ℕ)). ins ++ xs) (driven_covers ks)
