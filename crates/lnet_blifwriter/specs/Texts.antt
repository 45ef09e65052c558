-- The text of a plain circuit in the Berkeley Logic Interchange Format. After "Berkeley Logic Interchange Format (BLIF)",
-- University of California, Berkeley, 1992.
use Rattle.std.specs.Prelude.{ℕ, zero, suc, ◌/◌, ◌%◌, ◌^◌, ◌==◌, Bool, List, [], ◌∷◌, ◌++◌, length, map, Option, codes, if◌then◌else◌}
use Rattle.std.specs.List.{flat_map, range_with_len}
use Rattle.lnet_edge.specs.declared.circuit.OutputPort.{OutputPort}
use Rattle.lnet_edge.specs.declared.circuit.WireRef.{WireRef}
use Rattle.lnet_edge.specs.Circuits.{CircuitValue, EquationValue}
use Rattle.lnet_naming.specs.Settling.{made_name, input_labels, output_labels}
use Rattle.lnet_nodes.specs.Nodes.{label_of, node_name}
use Rattle.lnet_nodes.specs.Rows.{variables, gate_value}

-- a name behind a space
abbrev pub spaced : List ℕ → List ℕ
spaced name = 32 ∷ name

-- a word and names, each behind a space
abbrev pub words_line : List ℕ → List (List ℕ) → List ℕ
words_line word names = word ++ (flat_map spaced names ++ 10 ∷ [])

-- ---- gates

-- the names of operands
abbrev pub operand_names : (ℕ → Option (List ℕ)) → List WireRef → List (List ℕ)
operand_names label rs = map (λ (r : WireRef). node_name label r.wire.0) rs

-- `.names` with the operands, and the target last
abbrev pub names_line : (ℕ → Option (List ℕ)) → List WireRef → List ℕ → List ℕ
names_line label operands target = codes ".names" ++ (flat_map spaced (operand_names label operands) ++ (spaced target ++ 10 ∷ []))

-- a byte for each of so many operands, the row's least significant bit first
abbrev pub row_cells : ℕ → ℕ → List ℕ
row_cells zero row = []
row_cells (suc k) row = (if row % 2 == 1 then 49 else 48) ∷ row_cells k (row / 2)

-- the line of a true row; without operands the value stands alone
abbrev pub row_line : ℕ → ℕ → List ℕ
row_line zero row = codes "1\n"
row_line (suc k) row = row_cells (suc k) row ++ codes " 1\n"

-- the lines of true rows among these
abbrev pub rows_text : (ℕ → Bool) → ℕ → List ℕ → List ℕ
rows_text value operands rows = flat_map (λ row. if value row then row_line operands row else []) rows

-- a gate over its operands that are no constants: a line for each true row, in ascending order
abbrev pub gate_text : (ℕ → Option (List ℕ)) → EquationValue → List ℕ
gate_text label e = names_line label (variables e.operands) (made_name 110 e.target) ++ rows_text (gate_value e) (length (variables e.operands)) (range_with_len 0 (2 ^ length (variables e.operands)))

-- ---- outputs

-- an output shows a constant, a node or the complement of one
abbrev pub output_text : (ℕ → Option (List ℕ)) → List ℕ → WireRef → List ℕ
output_text label name r =
    if r.wire.0 == 0
    then codes ".names " ++ (name ++ (if r.complement then codes "\n1\n" else codes "\n"))
    else codes ".names " ++ (node_name label r.wire.0 ++ (32 ∷ (name ++ (if r.complement then codes "\n0 1\n" else codes "\n1 1\n"))))

-- the same of outputs one after the other, with their names
abbrev pub outputs_text : (ℕ → Option (List ℕ)) → List (List ℕ) → List OutputPort → List ℕ
outputs_text label (name ∷ names) (p ∷ ps) = output_text label name p.source ++ outputs_text label names ps
outputs_text label _ _ = []

-- ---- texts

-- the lines of the model and the ports
abbrev pub ports_text : CircuitValue → List ℕ
ports_text c = codes ".model lognet\n" ++ (words_line (codes ".inputs") (input_labels c.inputs) ++ words_line (codes ".outputs") (output_labels c.inputs c.outputs))

-- the covers of gates and outputs, and the end
abbrev pub covers_text : (ℕ → Option (List ℕ)) → CircuitValue → List ℕ
covers_text label c = flat_map (gate_text label) c.equations ++ (outputs_text label (output_labels c.inputs c.outputs) c.outputs ++ codes ".end\n")

-- the text of a circuit
abbrev pub blif_text : CircuitValue → List ℕ
blif_text c = ports_text c ++ covers_text (label_of c) c
