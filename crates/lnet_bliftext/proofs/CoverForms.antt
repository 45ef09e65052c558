-- The names and rows of the covers of a written text.
use Rattle.std.proofs.Common.{◌≡◌, ℕ, Bool, true, false, cond, eqb, List, [], ◌∷◌, ◌++◌, length, map, Option, codes, refl, sym, subst}
use Rattle.std.specs.List.{list_all, AllByRecursion}
use Rattle.std.proofs.lemmas.List.{length-map}
use Rattle.lnet_edge.specs.declared.circuit.OutputPort.{OutputPort}
use Rattle.lnet_edge.specs.declared.circuit.WireRef.{WireRef}
use Rattle.lnet_edge.specs.Circuits.{CircuitValue, EquationValue}
use Rattle.lnet_edge.specs.Covers.{is_row}
use Rattle.lnet_naming.specs.Settling.{output_labels}
use Rattle.lnet_nodes.specs.Nodes.{label_of, node_name}
use Rattle.lnet_nodes.specs.Rows.{variables}
use Rattle.lnet_blifwriter.specs.Texts.{row_cells}
use Rattle.lnet_benchtext.specs.Written.{HasNames}
use Rattle.lnet_benchtext.proofs.Cutting.{both_true, true_both}
use Rattle.lnet_bliftext.specs.Written.{CoverLines, gate_cover, output_cover, output_covers, written_covers}
use Rattle.lnet_bliftext.proofs.WrittenNames.{is_written, WritesNodes, made-written, operand_names-written, output_labels-written, label_of-written}
use Rattle.lnet_bliftext.proofs.Rows.{row_cells-row, length-row_cells}

-- a byte `0`, `1` or `-` for each of so many operands
abbrev pub IsRowOf : ℕ → List ℕ → Type 0
IsRowOf k row = (is_row row ≡ true) × (length row ≡ k)

-- each row has a byte for each operand
abbrev pub FitsRows : CoverLines → Type 0
FitsRows k = AllByRecursion (IsRowOf (length k.operands)) k.rows

-- the names can be written
pub record HasWritten (k : CoverLines) : Type 0 where
  pub operands : list_all is_written k.operands ≡ true
  pub target : is_written k.target ≡ true

-- the cover of an output, by whether it shows a constant, and whether a complement
abbrev pub shown_by : (ℕ → Option (List ℕ)) → List ℕ → WireRef → Bool → Bool → CoverLines
shown_by label name r constant complement = cond constant (record { operands = []; target = name; rows = cond complement ([] ∷ []) [] }) (record { operands = node_name label r.wire.0 ∷ []; target = name; rows = cond complement (codes "0") (codes "1") ∷ [] })

-- ---- rows

cells_fit : (k : ℕ) (rows : List ℕ) → AllByRecursion (IsRowOf k) (map (row_cells k) rows)
cells_fit k [] = tt
cells_fit k (row ∷ rows) = ((row_cells-row k row, length-row_cells k row), cells_fit k rows)

gate_fits : (label : ℕ → Option (List ℕ)) (e : EquationValue) → FitsRows (gate_cover label e)
gate_fits label e = subst (λ (n : ℕ). AllByRecursion (IsRowOf n) (gate_cover label e).rows) (sym (length-map (variables e.operands) (λ (r : WireRef). node_name label r.wire.0))) (cells_fit (length (variables e.operands)) _)

output_fits : (label : ℕ → Option (List ℕ)) (name : List ℕ) (r : WireRef) → FitsRows (output_cover label name r)
output_fits label name r = by (eqb r.wire.0 0) r.complement where
  by : (constant complement : Bool) → FitsRows (shown_by label name r constant complement)
  by true true = ((refl, refl), tt)
  by true false = tt
  by false true = ((refl, refl), tt)
  by false false = ((refl, refl), tt)

outputs_fit : (label : ℕ → Option (List ℕ)) (names : List (List ℕ)) (ps : List OutputPort) → AllByRecursion FitsRows (output_covers label names ps)
outputs_fit label [] ps = tt
outputs_fit label (name ∷ names) [] = tt
outputs_fit label (name ∷ names) (p ∷ ps) = (output_fits label name p.source, outputs_fit label names ps)

gates_fit : (label : ℕ → Option (List ℕ)) (es : List EquationValue) (ks : List CoverLines) → AllByRecursion FitsRows ks → AllByRecursion FitsRows (map (gate_cover label) es ++ ks)
gates_fit label [] ks later = later
gates_fit label (e ∷ es) ks later = (gate_fits label e, gates_fit label es ks later)

pub rows_fit : (c : CircuitValue) → AllByRecursion FitsRows (written_covers c)
rows_fit c = gates_fit (label_of c) c.equations (output_covers (label_of c) (output_labels c.inputs c.outputs) c.outputs) (outputs_fit (label_of c) (output_labels c.inputs c.outputs) c.outputs)

-- ---- names

output_written : (label : ℕ → Option (List ℕ)) (name : List ℕ) (r : WireRef) → WritesNodes label → is_written name ≡ true → HasWritten (output_cover label name r)
output_written label name r written is = by (eqb r.wire.0 0) where
  by : (constant : Bool) → HasWritten (shown_by label name r constant r.complement)
  by true = record { operands = refl; target = is }
  by false = record { operands = true_both (is_written (node_name label r.wire.0)) true (written r.wire.0) refl; target = is }

outputs_written : (label : ℕ → Option (List ℕ)) (names : List (List ℕ)) (ps : List OutputPort) → WritesNodes label → list_all is_written names ≡ true → AllByRecursion HasWritten (output_covers label names ps)
outputs_written label [] ps written all = tt
outputs_written label (name ∷ names) [] written all = tt
outputs_written label (name ∷ names) (p ∷ ps) written all =
    let t = both_true (is_written name) (list_all is_written names) all in
    (output_written label name p.source written t.0, outputs_written label names ps written t.1)

gates_written : (label : ℕ → Option (List ℕ)) (es : List EquationValue) (ks : List CoverLines) → WritesNodes label → AllByRecursion HasWritten ks → AllByRecursion HasWritten (map (gate_cover label) es ++ ks)
gates_written label [] ks written later = later
gates_written label (e ∷ es) ks written later = (record { operands = operand_names-written label (variables e.operands) written; target = made-written 110 e.target refl }, gates_written label es ks written later)

pub names_written : (c : CircuitValue) → HasNames c → AllByRecursion HasWritten (written_covers c)
names_written c has =
    let written = label_of-written c has in
    gates_written (label_of c) c.equations (output_covers (label_of c) (output_labels c.inputs c.outputs) c.outputs) written (outputs_written (label_of c) (output_labels c.inputs c.outputs) c.outputs written (output_labels-written c has))
