-- The BENCH text of a plain circuit. Source: the BENCH format (Brglez, Bryan and Kozminski, "Combinational Profiles of Sequential
-- Benchmark Circuits", 1989), with look-up tables and constants as in ABC.
use Rattle.std.specs.Prelude.{ℕ, ◌==◌, ◌&&◌, Bool, true, false, not, List, [], ◌∷◌, ◌++◌, length, map, fold, Option, codes, if◌then◌else◌}
use Rattle.std.specs.List.{flat_map, list_any, filter}
use Rattle.std.specs.Ordering.{nat_cmp}
use Rattle.std.specs.BTreeSet.{insert_key}
use Rattle.lnet_edge.specs.declared.circuit.InputPort.{InputPort}
use Rattle.lnet_edge.specs.declared.circuit.OutputPort.{OutputPort}
use Rattle.lnet_edge.specs.declared.circuit.Rule.{Rule}
use Rattle.lnet_edge.specs.declared.circuit.Rule.TheVariants.{And, Xor, Maj, Lut}
use Rattle.lnet_edge.specs.declared.circuit.WireRef.{WireRef}
use Rattle.lnet_edge.specs.Circuits.{CircuitValue, EquationValue}
use Rattle.lnet_edge.specs.Wires.{input_wires}
use Rattle.lnet_naming.specs.Settling.{made_name, input_labels, output_labels}
use Rattle.lnet_benchwriter.specs.declared.writing.Form.{Form}
use Rattle.lnet_benchwriter.specs.declared.writing.Form.TheVariants.{Words, Tables}
use Rattle.lnet_nodes.specs.Nodes.{label_of, node_name}
use Rattle.lnet_nodes.specs.Rows.{variables}
use Rattle.lnet_benchwriter.specs.Nodes.{constant_name, use_name, is_turned, uses_of}
use Rattle.lnet_benchwriter.specs.Tables.{gate_table}
use Rattle.lnet_tables.specs.Digits.{digit_count, hex_digits}

-- `WORD(NAME)`
abbrev pub port_line : List ℕ → List ℕ → List ℕ
port_line word name = word ++ (codes "(" ++ (name ++ codes ")\n"))

-- names with a comma and a space between them
abbrev pub separated : List (List ℕ) → List ℕ
separated [] = []
separated (x ∷ xs) = x ++ flat_map (λ y. codes ", " ++ y) xs

-- `NAME = WORD(OPERANDS)`
abbrev pub gate_line : List ℕ → List ℕ → List (List ℕ) → List ℕ
gate_line name word operands = name ++ (codes " = " ++ (word ++ (codes "(" ++ (separated operands ++ codes ")\n"))))

-- `NAME = VALUE`
abbrev pub constant_line : List ℕ → Bool → List ℕ
constant_line name value = name ++ (codes " = " ++ (constant_name value ++ codes "\n"))

-- the lines of outputs, each by its name and what it shows
abbrev pub output_lines : (List ℕ → WireRef → List ℕ) → List (List ℕ) → List OutputPort → List ℕ
output_lines line (name ∷ names) (p ∷ ps) = line name p.source ++ output_lines line names ps
output_lines line _ _ = []

-- ---- the form of gates with words

-- the word of a gate, that of its complement where its result is complemented
abbrev pub gate_word : Rule → List ℕ
gate_word (And complement) = if complement then codes "NAND" else codes "AND"
gate_word (Xor complement) = if complement then codes "XNOR" else codes "XOR"
gate_word _ = []

-- the line of the complement of node n
abbrev pub complement_line : (ℕ → Option (List ℕ)) → ℕ → List ℕ
complement_line label n = gate_line (made_name 99 n) (codes "NOT") (node_name label n ∷ [])

-- the numbers of a list in ascending order, each once
abbrev pub ascending : List ℕ → List ℕ
ascending ns = fold (insert_key nat_cmp) [] ns

-- the complements of inputs that are used, ascending
abbrev pub input_complements : (ℕ → Option (List ℕ)) → (ℕ → Bool) → List InputPort → List ℕ
input_complements label turned inputs = flat_map (complement_line label) (ascending (filter turned (input_wires inputs)))

-- a gate, and right behind it its complement where that is used
abbrev pub word_lines : (ℕ → Option (List ℕ)) → (ℕ → Bool) → EquationValue → List ℕ
word_lines label turned e = gate_line (made_name 110 e.target) (gate_word e.rule) (map (use_name label) e.operands) ++ (if turned e.target then complement_line label e.target else [])

-- an output shows a node, a complement or a constant
abbrev pub word_output : (ℕ → Option (List ℕ)) → List ℕ → WireRef → List ℕ
word_output label name r = gate_line name (codes "BUFF") (use_name label r ∷ [])

-- ---- the form of gates with tables

-- `LUT 0x`, the digits of the table and a space
abbrev pub table_word : EquationValue → List ℕ
table_word e = codes "LUT 0x" ++ (hex_digits (digit_count (length (variables e.operands))) (gate_table e) ++ codes " ")

-- a gate over its operands that are no constants, or a constant where there is none
abbrev pub table_line : (ℕ → Option (List ℕ)) → EquationValue → List ℕ
table_line label e = by_variables (variables e.operands) where
  by_variables : List WireRef → List ℕ
  by_variables [] = constant_line (made_name 110 e.target) (gate_table e == 1)
  by_variables (r ∷ rs) = gate_line (made_name 110 e.target) (table_word e) (map (λ (v : WireRef). node_name label v.wire.0) (r ∷ rs))

-- the word of an output: that of the complement where a node is complemented
abbrev pub output_word : WireRef → List ℕ
output_word r = if not (r.wire.0 == 0) && r.complement then codes "NOT" else codes "BUFF"

-- what an output names: a node or a constant
abbrev pub shown_name : (ℕ → Option (List ℕ)) → WireRef → List ℕ
shown_name label r = if r.wire.0 == 0 then constant_name r.complement else node_name label r.wire.0

-- an output shows a node, the complement of one, or a constant
abbrev pub table_output : (ℕ → Option (List ℕ)) → List ℕ → WireRef → List ℕ
table_output label name r = gate_line name (output_word r) (shown_name label r ∷ [])

-- ---- texts

-- the line of an output in each form
abbrev pub output_line : Form → (ℕ → Option (List ℕ)) → List ℕ → WireRef → List ℕ
output_line Words label name r = word_output label name r
output_line Tables label name r = table_output label name r

-- the rule is a Maj or a Lut, which has no word
abbrev pub is_table_rule : Rule → Bool
is_table_rule (Maj complement) = true
is_table_rule (Lut table) = true
is_table_rule _ = false

abbrev pub has_tables : List EquationValue → Bool
has_tables es = list_any (λ (e : EquationValue). is_table_rule e.rule) es

-- a line for each input, and then one for each output
abbrev pub ports_text : CircuitValue → List ℕ
ports_text c = flat_map (port_line (codes "INPUT")) (input_labels c.inputs) ++ flat_map (port_line (codes "OUTPUT")) (output_labels c.inputs c.outputs)

-- the lines behind those, where gates have words
abbrev pub word_form : (ℕ → Option (List ℕ)) → (ℕ → Bool) → CircuitValue → List ℕ
word_form label turned c = input_complements label turned c.inputs ++ (flat_map (word_lines label turned) c.equations ++ output_lines (output_line Words label) (output_labels c.inputs c.outputs) c.outputs)

-- the same where gates have tables
abbrev pub table_form : (ℕ → Option (List ℕ)) → CircuitValue → List ℕ
table_form label c = flat_map (table_line label) c.equations ++ output_lines (output_line Tables label) (output_labels c.inputs c.outputs) c.outputs

-- the lines behind those of the ports: gates have words where none is a Maj or a Lut
abbrev pub form_text : (ℕ → Option (List ℕ)) → CircuitValue → List ℕ
form_text label c = if has_tables c.equations then table_form label c else word_form label (is_turned (uses_of c)) c

-- the text of a circuit
abbrev pub bench_text : CircuitValue → List ℕ
bench_text c = ports_text c ++ form_text (label_of c) c
