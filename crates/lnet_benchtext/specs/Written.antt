-- The statements that the BENCH text of a plain circuit spells. Source: the BENCH format (Brglez, Bryan and Kozminski,
-- "Combinational Profiles of Sequential Benchmark Circuits", 1989), with look-up tables and constants as in ABC.
use Rattle.std.specs.Prelude.{ℕ, ◌==◌, ◌&&◌, Bool, true, false, not, List, [], ◌∷◌, ◌++◌, map, Option, if◌then◌else◌}
use Rattle.std.specs.List.{flat_map, filter, AllByRecursion}
use Rattle.std.specs.Option.{IfSome}
use Rattle.lnet_edge.specs.declared.circuit.InputPort.{InputPort}
use Rattle.lnet_edge.specs.declared.circuit.OutputPort.{OutputPort}
use Rattle.lnet_edge.specs.declared.circuit.Rule.TheVariants.{And, Lut}
use Rattle.lnet_edge.specs.declared.circuit.WireRef.{WireRef}
use Rattle.lnet_edge.specs.Circuits.{CircuitValue, EquationValue}
use Rattle.lnet_edge.specs.Names.{IsName}
use Rattle.lnet_edge.specs.Wires.{input_wires}
use Rattle.lnet_naming.specs.Settling.{made_name, input_labels, output_labels}
use Rattle.lnet_nodes.specs.Nodes.{label_of, node_name}
use Rattle.lnet_nodes.specs.Rows.{variables}
use Rattle.lnet_bench.specs.Statements.{StatementValue, Input, Output, Gate, Constant}
use Rattle.lnet_benchwriter.specs.Nodes.{use_name, is_turned, uses_of}
use Rattle.lnet_benchwriter.specs.Tables.{gate_table}
use Rattle.lnet_benchwriter.specs.Texts.{ascending, has_tables, shown_name}

-- what names of ports there are have one byte or more, each from 32 to 126
pub record HasNames (c : CircuitValue) : Type 0 where
  pub inputs : AllByRecursion (λ (p : InputPort). IfSome p.name IsName) c.inputs
  pub outputs : AllByRecursion (λ (p : OutputPort). IfSome p.name IsName) c.outputs

-- an input for each input, and then an output for each output
abbrev pub port_statements : CircuitValue → List StatementValue
port_statements c = map Input (input_labels c.inputs) ++ map Output (output_labels c.inputs c.outputs)

-- a statement for each output, by its name and what it shows
abbrev pub output_statements : (List ℕ → WireRef → StatementValue) → List (List ℕ) → List OutputPort → List StatementValue
output_statements statement (name ∷ names) (p ∷ ps) = statement name p.source ∷ output_statements statement names ps
output_statements statement _ _ = []

-- ---- gates with words

-- the complement of node n
abbrev pub complement_statement : (ℕ → Option (List ℕ)) → ℕ → StatementValue
complement_statement label n = Gate (made_name 99 n) (And true) (node_name label n ∷ [])

-- the complements of inputs that are used, ascending
abbrev pub input_complement_statements : (ℕ → Option (List ℕ)) → (ℕ → Bool) → List InputPort → List StatementValue
input_complement_statements label turned inputs = map (complement_statement label) (ascending (filter turned (input_wires inputs)))

-- a gate with its own rule, and right behind it its complement where that is used
abbrev pub word_statements : (ℕ → Option (List ℕ)) → (ℕ → Bool) → EquationValue → List StatementValue
word_statements label turned e = Gate (made_name 110 e.target) e.rule (map (use_name label) e.operands) ∷ (if turned e.target then complement_statement label e.target ∷ [] else [])

-- an output shows a node, a complement or a constant
abbrev pub word_output_statement : (ℕ → Option (List ℕ)) → List ℕ → WireRef → StatementValue
word_output_statement label name r = Gate name (And false) (use_name label r ∷ [])

-- the gates and outputs of a circuit whose gates have words
abbrev pub word_form_statements : (ℕ → Option (List ℕ)) → (ℕ → Bool) → CircuitValue → List StatementValue
word_form_statements label turned c = input_complement_statements label turned c.inputs ++ (flat_map (word_statements label turned) c.equations ++ output_statements (word_output_statement label) (output_labels c.inputs c.outputs) c.outputs)

-- ---- gates with tables

-- a table over the operands that are no constants, or a constant where there is none
abbrev pub table_statement : (ℕ → Option (List ℕ)) → EquationValue → StatementValue
table_statement label e = by_variables (variables e.operands) where
  by_variables : List WireRef → StatementValue
  by_variables [] = Constant (made_name 110 e.target) (gate_table e == 1)
  by_variables (r ∷ rs) = Gate (made_name 110 e.target) (Lut (gate_table e)) (map (λ (v : WireRef). node_name label v.wire.0) (r ∷ rs))

-- an output shows a node, the complement of one, or a constant
abbrev pub table_output_statement : (ℕ → Option (List ℕ)) → List ℕ → WireRef → StatementValue
table_output_statement label name r = Gate name (And (not (r.wire.0 == 0) && r.complement)) (shown_name label r ∷ [])

-- the gates and outputs of a circuit whose gates have tables
abbrev pub table_form_statements : (ℕ → Option (List ℕ)) → CircuitValue → List StatementValue
table_form_statements label c = map (table_statement label) c.equations ++ output_statements (table_output_statement label) (output_labels c.inputs c.outputs) c.outputs

-- ---- texts

-- gates have words where none is a Maj or a Lut
abbrev pub form_statements : (ℕ → Option (List ℕ)) → CircuitValue → List StatementValue
form_statements label c = if has_tables c.equations then table_form_statements label c else word_form_statements label (is_turned (uses_of c)) c

-- the statements of the text of a circuit
abbrev pub written_statements : CircuitValue → List StatementValue
written_statements c = port_statements c ++ form_statements (label_of c) c
