-- The statements that the BLIF text of a circuit spells. After "Berkeley Logic Interchange Format (BLIF)", University of
-- California, Berkeley, 1992.
use Rattle.std.specs.Prelude.{ℕ, ◌+◌, ◌^◌, ◌==◌, Bool, true, List, [], ◌∷◌, ◌++◌, length, map, Option, Result, Ok, codes, if◌then◌else◌}
use Rattle.std.specs.List.{flat_map, filter, range_with_len}
use Rattle.lnet_edge.specs.declared.circuit.OutputPort.{OutputPort}
use Rattle.lnet_edge.specs.declared.circuit.WireRef.{WireRef}
use Rattle.lnet_edge.specs.declared.fault.Malformed.{Malformed}
use Rattle.lnet_edge.specs.Circuits.{CircuitValue, EquationValue}
use Rattle.lnet_naming.specs.Settling.{made_name, input_labels, output_labels}
use Rattle.lnet_nodes.specs.Nodes.{label_of, node_name}
use Rattle.lnet_nodes.specs.Rows.{variables, gate_value}
use Rattle.lnet_bliflines.specs.Words.{LineWords}
use Rattle.lnet_blif.specs.Statements.{StatementValue, Model, Inputs, Outputs, Names, Row, End}
use Rattle.lnet_blifwriter.specs.Texts.{operand_names, row_cells}

-- a cover whose rows say where its target is true
pub record CoverLines : Type 0 where
  pub operands : List (List ℕ)
  pub target : List ℕ
  pub rows : List (List ℕ)

-- a row at which the target is true
abbrev pub true_row : List ℕ → StatementValue
true_row cells = Row (record { cells = cells; value = true })

-- `.names`, and the rows
abbrev pub cover_statements : CoverLines → List StatementValue
cover_statements k = Names k.operands k.target ∷ map true_row k.rows

-- a row for each true one, in ascending order
abbrev pub true_rows : (ℕ → Bool) → ℕ → List (List ℕ)
true_rows value operands = map (row_cells operands) (filter value (range_with_len 0 (2 ^ operands)))

-- a gate is a cover over its operands that are no constants
abbrev pub gate_cover : (ℕ → Option (List ℕ)) → EquationValue → CoverLines
gate_cover label e = record { operands = operand_names label (variables e.operands); target = made_name 110 e.target; rows = true_rows (gate_value e) (length (variables e.operands)) }

-- an output is a cover that shows a constant, a node or the complement of one
abbrev pub output_cover : (ℕ → Option (List ℕ)) → List ℕ → WireRef → CoverLines
output_cover label name r =
    if r.wire.0 == 0
    then record { operands = []; target = name; rows = if r.complement then [] ∷ [] else [] }
    else record { operands = node_name label r.wire.0 ∷ []; target = name; rows = (if r.complement then codes "0" else codes "1") ∷ [] }

-- the same of outputs one after the other, with their names
abbrev pub output_covers : (ℕ → Option (List ℕ)) → List (List ℕ) → List OutputPort → List CoverLines
output_covers label (name ∷ names) (p ∷ ps) = output_cover label name p.source ∷ output_covers label names ps
output_covers label _ _ = []

-- a cover for each gate, and then one for each output
abbrev pub written_covers : CircuitValue → List CoverLines
written_covers c = map (gate_cover (label_of c)) c.equations ++ output_covers (label_of c) (output_labels c.inputs c.outputs) c.outputs

-- the statements of the text of a circuit
abbrev pub written_statements : CircuitValue → List StatementValue
written_statements c = Model ∷ Inputs (input_labels c.inputs) ∷ Outputs (output_labels c.inputs c.outputs) ∷ (flat_map cover_statements (written_covers c) ++ End ∷ [])

-- ---- lines

-- the words of a row: its cells, unless there are none, and the value
abbrev pub row_words : List ℕ → Bool → List (List ℕ)
row_words [] value = (if value then codes "1" else codes "0") ∷ []
row_words (b ∷ bs) value = (b ∷ bs) ∷ (if value then codes "1" else codes "0") ∷ []

-- the words of a statement's line
abbrev pub statement_words : StatementValue → List (List ℕ)
statement_words Model = codes ".model" ∷ codes "lognet" ∷ []
statement_words (Inputs xs) = codes ".inputs" ∷ xs
statement_words (Outputs xs) = codes ".outputs" ∷ xs
statement_words (Names operands target) = codes ".names" ∷ (operands ++ target ∷ [])
statement_words (Row row) = row_words row.cells row.value
statement_words End = codes ".end" ∷ []

-- lines of these words, one behind the other from this number on, each by itself
abbrev pub lines_from : ℕ → List (List (List ℕ)) → List (Result LineWords Malformed)
lines_from n [] = []
lines_from n (words ∷ more) = Ok (record { number = n; words = words }) ∷ lines_from (n + 1) more
