-- A written text is the lines of its statements, each with a newline.
use Rattle.std.proofs.Common.{◌≡◌, ℕ, zero, suc, ◌^◌, Bool, true, false, cond, eqb, List, [], ◌∷◌, ◌++◌, length, map, Option, codes, refl, sym, ap, ◌∙◌, append_assoc}
use Rattle.std.specs.Prelude.{if◌then◌else◌}
use Rattle.std.specs.List.{flat_map, filter, range_with_len}
use Rattle.std.proofs.lemmas.List.{append-nil}
use Rattle.std.proofs.lemmas.List.Concat.{flat_map-append}
use Rattle.lnet_edge.specs.declared.circuit.OutputPort.{OutputPort}
use Rattle.lnet_edge.specs.declared.circuit.WireRef.{WireRef}
use Rattle.lnet_edge.specs.Circuits.{CircuitValue, EquationValue}
use Rattle.lnet_naming.specs.Settling.{made_name, input_labels, output_labels}
use Rattle.lnet_nodes.specs.Nodes.{label_of, node_name}
use Rattle.lnet_nodes.specs.Rows.{variables, gate_value}
use Rattle.lnet_blif.specs.Statements.{StatementValue, Model, Inputs, Outputs, Names, Row, End}
use Rattle.lnet_blifwriter.specs.Texts.{spaced, words_line, operand_names, row_cells, row_line, rows_text, gate_text, output_text, outputs_text, covers_text, blif_text}
use Rattle.lnet_bliftext.specs.Written.{CoverLines, true_row, cover_statements, true_rows, gate_cover, output_cover, output_covers, written_covers, written_statements}

-- a row without its newline
abbrev pub row_bytes : List ℕ → Bool → List ℕ
row_bytes [] value = if value then codes "1" else codes "0"
row_bytes (b ∷ bs) value = (b ∷ bs) ++ (if value then codes " 1" else codes " 0")

-- a statement's line without its newline
abbrev pub line_of : StatementValue → List ℕ
line_of Model = codes ".model lognet"
line_of (Inputs xs) = codes ".inputs" ++ flat_map spaced xs
line_of (Outputs xs) = codes ".outputs" ++ flat_map spaced xs
line_of (Names operands target) = codes ".names" ++ flat_map spaced (operands ++ target ∷ [])
line_of (Row row) = row_bytes row.cells row.value
line_of End = codes ".end"

abbrev pub line_text : StatementValue → List ℕ
line_text s = line_of s ++ 10 ∷ []

abbrev pub text_of : List StatementValue → List ℕ
text_of ss = flat_map line_text ss

-- ---- rows

row_is : (k row : ℕ) → row_line k row ≡ line_text (true_row (row_cells k row))
row_is zero row = refl
row_is (suc k) row = sym (append_assoc (row_cells (suc k) row) (codes " 1") (10 ∷ []))

rows_are : (value : ℕ → Bool) (k : ℕ) (rows : List ℕ) → rows_text value k rows ≡ text_of (map true_row (map (row_cells k) (filter value rows)))
rows_are value k [] = refl
rows_are value k (row ∷ rows) = by (value row) (rows_are value k rows) where
  by : (b : Bool) → rows_text value k rows ≡ text_of (map true_row (map (row_cells k) (filter value rows))) → (if b then row_line k row else []) ++ rows_text value k rows ≡ text_of (map true_row (map (row_cells k) (cond b (row ∷ filter value rows) (filter value rows))))
  by true later = ap (λ (t : List ℕ). t ++ rows_text value k rows) (row_is k row) ∙ ap (λ (t : List ℕ). line_text (true_row (row_cells k row)) ++ t) later
  by false later = later

-- ---- covers

-- `.names` with these operands and this target
abbrev names_text : List (List ℕ) → List ℕ → List ℕ
names_text operands target = codes ".names" ++ (flat_map spaced operands ++ (spaced target ++ 10 ∷ []))

names_cut : (operands : List (List ℕ)) (target rest : List ℕ) → names_text operands target ++ rest ≡ (codes ".names" ++ flat_map spaced (operands ++ target ∷ [])) ++ 10 ∷ rest
names_cut operands target rest =
    let joined : flat_map spaced (operands ++ target ∷ []) ≡ flat_map spaced operands ++ spaced target = flat_map-append spaced operands (target ∷ []) ∙ ap (λ (t : List ℕ). flat_map spaced operands ++ t) (append-nil (spaced target)) in
    let whole : flat_map spaced operands ++ (spaced target ++ 10 ∷ []) ≡ flat_map spaced (operands ++ target ∷ []) ++ 10 ∷ [] = sym (append_assoc (flat_map spaced operands) (spaced target) (10 ∷ [])) ∙ ap (λ (t : List ℕ). t ++ 10 ∷ []) (sym joined) in
    ap (λ (t : List ℕ). (codes ".names" ++ t) ++ rest) whole
    ∙ ap (λ (t : List ℕ). codes ".names" ++ t) (append_assoc (flat_map spaced (operands ++ target ∷ [])) (10 ∷ []) rest)
    ∙ sym (append_assoc (codes ".names") (flat_map spaced (operands ++ target ∷ [])) (10 ∷ rest))

cover_is : (operands : List (List ℕ)) (target text : List ℕ) (rows : List (List ℕ)) → text ≡ text_of (map true_row rows) → names_text operands target ++ text ≡ text_of (cover_statements (record { operands = operands; target = target; rows = rows }))
cover_is operands target text rows is =
    names_cut operands target text
    ∙ sym (append_assoc (codes ".names" ++ flat_map spaced (operands ++ target ∷ [])) (10 ∷ []) text)
    ∙ ap (λ (t : List ℕ). line_text (Names operands target) ++ t) is

gates_are : (label : ℕ → Option (List ℕ)) (es : List EquationValue) → flat_map (gate_text label) es ≡ text_of (flat_map cover_statements (map (gate_cover label) es))
gates_are label [] = refl
gates_are label (e ∷ es) =
    let n = length (variables e.operands) in
    let one : gate_text label e ≡ text_of (cover_statements (gate_cover label e)) = cover_is (operand_names label (variables e.operands)) (made_name 110 e.target) (rows_text (gate_value e) n (range_with_len 0 (2 ^ n))) (true_rows (gate_value e) n) (rows_are (gate_value e) n (range_with_len 0 (2 ^ n))) in
    ap (λ (t : List ℕ). t ++ flat_map (gate_text label) es) one
    ∙ ap (λ (t : List ℕ). text_of (cover_statements (gate_cover label e)) ++ t) (gates_are label es)
    ∙ sym (flat_map-append line_text (cover_statements (gate_cover label e)) (flat_map cover_statements (map (gate_cover label) es)))

constant_is : (name : List ℕ) (value : Bool) → codes ".names " ++ (name ++ (if value then codes "\n1\n" else codes "\n")) ≡ text_of (cover_statements (record { operands = []; target = name; rows = if value then [] ∷ [] else [] }))
constant_is name true = sym (ap (λ (t : List ℕ). codes ".names " ++ t) (append_assoc name (10 ∷ []) (codes "1\n"))) ∙ cover_is [] name (codes "1\n") ([] ∷ []) refl
constant_is name false = sym (append-nil (names_text [] name)) ∙ cover_is [] name [] [] refl

one_operand : (node name rest : List ℕ) → names_text (node ∷ []) name ++ rest ≡ codes ".names " ++ (node ++ (32 ∷ (name ++ 10 ∷ rest)))
one_operand node name rest =
    ap (λ (t : List ℕ). (codes ".names " ++ (t ++ (spaced name ++ 10 ∷ []))) ++ rest) (append-nil node)
    ∙ ap (λ (t : List ℕ). codes ".names " ++ t) (append_assoc node (spaced name ++ 10 ∷ []) rest)
    ∙ ap (λ (t : List ℕ). codes ".names " ++ (node ++ (32 ∷ t))) (append_assoc name (10 ∷ []) rest)

shown_is : (node name : List ℕ) (complement : Bool) → codes ".names " ++ (node ++ (32 ∷ (name ++ (if complement then codes "\n0 1\n" else codes "\n1 1\n")))) ≡ text_of (cover_statements (record { operands = node ∷ []; target = name; rows = (if complement then codes "0" else codes "1") ∷ [] }))
shown_is node name true = sym (one_operand node name (codes "0 1\n")) ∙ cover_is (node ∷ []) name (codes "0 1\n") (codes "0" ∷ []) refl
shown_is node name false = sym (one_operand node name (codes "1 1\n")) ∙ cover_is (node ∷ []) name (codes "1 1\n") (codes "1" ∷ []) refl

output_is : (label : ℕ → Option (List ℕ)) (name : List ℕ) (r : WireRef) → output_text label name r ≡ text_of (cover_statements (output_cover label name r))
output_is label name r = by (eqb r.wire.0 0) where
  constant : CoverLines
  constant = record { operands = []; target = name; rows = if r.complement then [] ∷ [] else [] }

  shown : CoverLines
  shown = record { operands = node_name label r.wire.0 ∷ []; target = name; rows = (if r.complement then codes "0" else codes "1") ∷ [] }

  by : (b : Bool) → cond b (codes ".names " ++ (name ++ (if r.complement then codes "\n1\n" else codes "\n"))) (codes ".names " ++ (node_name label r.wire.0 ++ (32 ∷ (name ++ (if r.complement then codes "\n0 1\n" else codes "\n1 1\n"))))) ≡ text_of (cover_statements (cond b constant shown))
  by true = constant_is name r.complement
  by false = shown_is (node_name label r.wire.0) name r.complement

outputs_are : (label : ℕ → Option (List ℕ)) (names : List (List ℕ)) (ps : List OutputPort) → outputs_text label names ps ≡ text_of (flat_map cover_statements (output_covers label names ps))
outputs_are label [] ps = refl
outputs_are label (name ∷ names) [] = refl
outputs_are label (name ∷ names) (p ∷ ps) =
    ap (λ (t : List ℕ). t ++ outputs_text label names ps) (output_is label name p.source)
    ∙ ap (λ (t : List ℕ). text_of (cover_statements (output_cover label name p.source)) ++ t) (outputs_are label names ps)
    ∙ sym (flat_map-append line_text (cover_statements (output_cover label name p.source)) (flat_map cover_statements (output_covers label names ps)))

-- ---- texts

covers_are : (c : CircuitValue) → covers_text (label_of c) c ≡ text_of (flat_map cover_statements (written_covers c) ++ End ∷ [])
covers_are c =
    let label = label_of c in
    let outs = output_labels c.inputs c.outputs in
    let gates = flat_map cover_statements (map (gate_cover label) c.equations) in
    let shown = flat_map cover_statements (output_covers label outs c.outputs) in
    ap (λ (t : List ℕ). t ++ (outputs_text label outs c.outputs ++ codes ".end\n")) (gates_are label c.equations)
    ∙ ap (λ (t : List ℕ). text_of gates ++ (t ++ codes ".end\n")) (outputs_are label outs c.outputs)
    ∙ sym (append_assoc (text_of gates) (text_of shown) (codes ".end\n"))
    ∙ ap (λ (t : List ℕ). t ++ codes ".end\n") (sym (flat_map-append line_text gates shown))
    ∙ ap (λ (ss : List StatementValue). text_of ss ++ codes ".end\n") (sym (flat_map-append cover_statements (map (gate_cover label) c.equations) (output_covers label outs c.outputs)))
    ∙ sym (flat_map-append line_text (flat_map cover_statements (written_covers c)) (End ∷ []))

ports_are : (word : List ℕ) (names : List (List ℕ)) → words_line word names ≡ (word ++ flat_map spaced names) ++ 10 ∷ []
ports_are word names = sym (append_assoc word (flat_map spaced names) (10 ∷ []))

-- the text of a circuit is that of its statements
pub text_is : (c : CircuitValue) → blif_text c ≡ text_of (written_statements c)
text_is c =
    let ins = input_labels c.inputs in
    let outs = output_labels c.inputs c.outputs in
    let inputs = words_line (codes ".inputs") ins in
    let outputs = words_line (codes ".outputs") outs in
    let covers = text_of (flat_map cover_statements (written_covers c) ++ End ∷ []) in
    ap (λ (t : List ℕ). (codes ".model lognet\n" ++ (inputs ++ outputs)) ++ t) (covers_are c)
    ∙ ap (λ (t : List ℕ). codes ".model lognet\n" ++ t) (append_assoc inputs outputs covers)
    ∙ ap (λ (t : List ℕ). codes ".model lognet\n" ++ (t ++ (outputs ++ covers))) (ports_are (codes ".inputs") ins)
    ∙ ap (λ (t : List ℕ). codes ".model lognet\n" ++ (line_text (Inputs ins) ++ (t ++ covers))) (ports_are (codes ".outputs") outs)
