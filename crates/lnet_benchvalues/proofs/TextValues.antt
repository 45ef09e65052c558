-- The circuit of a written text has the outputs of the circuit that was written, and its ports the settled names.
use Rattle.std.proofs.Common.{◌≡◌, ℕ, Bool, true, false, List, [], ◌∷◌, ◌++◌, map, Option, Some, refl, ap, subst, ◌∙◌}
use Rattle.std.specs.List.{AllByRecursion}
use Rattle.lnet_edge.specs.declared.circuit.OutputPort.{OutputPort}
use Rattle.lnet_edge.specs.Circuits.{CircuitValue, AllFrom}
use Rattle.lnet_edge.specs.Plain.{IsPlain}
use Rattle.lnet_edge.specs.Values.{ref_value, circuit_outputs}
use Rattle.lnet_edge.specs.Wires.{IsCircuit}
use Rattle.lnet_naming.specs.Settling.{input_labels, output_labels}
use Rattle.lnet_edge.specs.Shown.{input_names, output_names}
use Rattle.lnet_nodes.specs.Nodes.{label_of}
use Rattle.lnet_bench.specs.Statements.{StatementValue, Input, Output, Gate, Constant}
use Rattle.lnet_bench.specs.Numbering.{inputs_by, outputs_by}
use Rattle.lnet_bench.specs.Texts.{driven_by, names_of, circuit_of}
use Rattle.lnet_benchwriter.specs.Nodes.{constant_name, is_turned, uses_of}
use Rattle.lnet_benchwriter.specs.Texts.{has_tables}
use Rattle.lnet_benchtext.specs.Written.{HasNames, port_statements, table_form_statements, word_form_statements, written_statements}
use Rattle.lnet_benchmeans.specs.Driving.{HasWires, shown_names, IsOrdered}
use Rattle.lnet_benchmeans.proofs.Differing.{all_second}
use Rattle.lnet_benchmeans.proofs.TableTexts.{tables_written}
use Rattle.lnet_benchmeans.proofs.WordTexts.{words_written, written_ordered}
use Rattle.lnet_benchvalues.specs.Named.{name_value, given_names, Holds}
use Rattle.lnet_benchvalues.proofs.NameValues.{constants_hold, statements_hold}
use Rattle.lnet_benchvalues.proofs.PortValues.{inputs_hold, outputs_hold}
use Rattle.lnet_benchvalues.proofs.Outputs.{HasNoPorts, ports_given}
use Rattle.lnet_benchvalues.proofs.TableOutputs.{table_form_outputs, table_form_none}
use Rattle.lnet_benchvalues.proofs.WordOutputs.{word_form_outputs, word_form_none}

-- ---- outputs

-- where the names have the values that the statements give them, the names of outputs have the values of the outputs
abbrev ShowsOutputs : CircuitValue → (ℕ → Bool) → List StatementValue → Type 0
ShowsOutputs c a form = (v : List ℕ → Bool) → ((value : Bool) → v (constant_name value) ≡ value) → AllFrom (λ k x. v x ≡ a k) 0 (input_labels c.inputs) → AllByRecursion (Holds v) form → map v (output_labels c.inputs c.outputs) ≡ map (λ (p : OutputPort). ref_value c a p.source) c.outputs

by_form : (c : CircuitValue) (a : ℕ → Bool) (form : List StatementValue) → HasNoPorts form → written_statements c ≡ port_statements c ++ form → ShowsOutputs c a form → IsOrdered (written_statements c) → IsCircuit (circuit_of (written_statements c)) → circuit_outputs (circuit_of (written_statements c)) a ≡ circuit_outputs c a
unfolding circuit_outputs
by_form c a form none same shows ordered is =
    let ss = written_statements c in
    let v = name_value ss a in
    let given = ports_given c form none in
    outputs_hold ss a
    ∙ ap (map v) (ap shown_names same ∙ given.1)
    ∙ shows v (constants_hold ss a ordered is)
    (subst (AllFrom (λ k x. v x ≡ a k) 0) (ap given_names same ∙ given.0) (inputs_hold ss a ordered is))
    (all_second (Holds v) (port_statements c) form (subst (AllByRecursion (Holds v)) same (statements_hold ss a ordered is)))

pub written_outputs : (c : CircuitValue) → HasNames c → HasWires c → IsCircuit c → IsPlain c.equations → IsCircuit (circuit_of (written_statements c)) → (a : ℕ → Bool) → circuit_outputs (circuit_of (written_statements c)) a ≡ circuit_outputs c a
written_outputs c has wires is plain rules a = by (has_tables c.equations) refl where
  by : (b : Bool) → has_tables c.equations ≡ b → circuit_outputs (circuit_of (written_statements c)) a ≡ circuit_outputs c a
  by true tables = by_form c a (table_form_statements (label_of c) c) (table_form_none c) (tables_written c tables) (λ v. table_form_outputs c a v is plain) (written_ordered c has wires is plain) rules
  by false words = by_form c a (word_form_statements (label_of c) (is_turned (uses_of c)) c) (word_form_none c) (words_written c words) (λ v. word_form_outputs c a v is plain) (written_ordered c has wires is plain) rules

-- ---- names of ports

-- the ports of a written text have the settled names
pub written_ports : (c : CircuitValue) → (given_names (written_statements c) ≡ input_labels c.inputs) × (shown_names (written_statements c) ≡ output_labels c.inputs c.outputs)
written_ports c = by (has_tables c.equations) refl where
  by_form_of : (form : List StatementValue) → HasNoPorts form → written_statements c ≡ port_statements c ++ form → (given_names (written_statements c) ≡ input_labels c.inputs) × (shown_names (written_statements c) ≡ output_labels c.inputs c.outputs)
  by_form_of form none same = let given = ports_given c form none in (ap given_names same ∙ given.0, ap shown_names same ∙ given.1)

  by : (b : Bool) → has_tables c.equations ≡ b → (given_names (written_statements c) ≡ input_labels c.inputs) × (shown_names (written_statements c) ≡ output_labels c.inputs c.outputs)
  by true tables = by_form_of (table_form_statements (label_of c) c) (table_form_none c) (tables_written c tables)
  by false words = by_form_of (word_form_statements (label_of c) (is_turned (uses_of c)) c) (word_form_none c) (words_written c words)

inputs_named : (names : List (List ℕ)) (ss : List StatementValue) → input_names (inputs_by names ss) ≡ map Some (given_names ss)
inputs_named names [] = refl
inputs_named names (Input name ∷ ss) = ap (λ (xs : List (Option (List ℕ))). Some name ∷ xs) (inputs_named names ss)
inputs_named names (Output name ∷ ss) = inputs_named names ss
inputs_named names (Gate target rule operands ∷ ss) = inputs_named names ss
inputs_named names (Constant target value ∷ ss) = inputs_named names ss

outputs_named : (given : List StatementValue) (names : List (List ℕ)) (ss : List StatementValue) → output_names (outputs_by (driven_by given) names ss) ≡ map Some (shown_names ss)
outputs_named given names [] = refl
outputs_named given names (Input name ∷ ss) = outputs_named given names ss
outputs_named given names (Output name ∷ ss) = ap (λ (xs : List (Option (List ℕ))). Some name ∷ xs) (outputs_named given names ss)
outputs_named given names (Gate target rule operands ∷ ss) = outputs_named given names ss
outputs_named given names (Constant target value ∷ ss) = outputs_named given names ss

pub written_input_names : (c : CircuitValue) → input_names (circuit_of (written_statements c)).inputs ≡ map Some (input_labels c.inputs)
written_input_names c = inputs_named (names_of (written_statements c)) (written_statements c) ∙ ap (map Some) (written_ports c).0

pub written_output_names : (c : CircuitValue) → output_names (circuit_of (written_statements c)).outputs ≡ map Some (output_labels c.inputs c.outputs)
written_output_names c = outputs_named (written_statements c) (names_of (written_statements c)) (written_statements c) ∙ ap (map Some) (written_ports c).1
