-- How many wires the circuit of a written text has.
use Rattle.std.proofs.Common.{◌≡◌, ℕ, suc, ◌+◌, ◌*◌, ◌≤◌, Bool, true, false, cond, List, [], ◌∷◌, ◌++◌, length, map, nat_cmp, Less, Equal, Greater, refl, ap, ◌∙◌, arith, length-append}
use Rattle.std.specs.Prelude.{not, ◌&&◌, ◌==◌, fold}
use Rattle.std.specs.List.{flat_map, filter}
use Rattle.std.specs.Ordering.{match_ordering}
use Rattle.std.specs.BTreeSet.{insert_key}
use Rattle.std.proofs.lemmas.List.{length-map}
use Rattle.std.proofs.lemmas.List.Sums.{length-filter, count_by-le-length}
use Rattle.lnet_edge.specs.declared.circuit.Rule.TheVariants.{And}
use Rattle.lnet_edge.specs.Circuits.{CircuitValue}
use Rattle.lnet_edge.specs.Wires.{input_wires, targets}
use Rattle.lnet_edge.proofs.WireLemmas.{length-input_wires, length-targets}
use Rattle.lnet_naming.specs.Settling.{made_name, input_labels, output_labels}
use Rattle.lnet_edge.specs.Shown.{input_names}
use Rattle.lnet_nodes.specs.Nodes.{label_of}
use Rattle.lnet_bench.specs.Statements.{StatementValue, Input, Output, Gate, Constant}
use Rattle.lnet_bench.specs.Numbering.{inputs_by, equations_by}
use Rattle.lnet_bench.specs.Texts.{driven_by}
use Rattle.lnet_benchwriter.specs.Nodes.{use_name, is_turned, uses_of}
use Rattle.lnet_benchwriter.specs.Texts.{ascending, has_tables, shown_name}
use Rattle.lnet_benchtext.specs.Written.{port_statements, input_complement_statements, word_statements, output_statements, word_output_statement, word_form_statements, table_statement, table_output_statement, table_form_statements, written_statements}
use Rattle.lnet_benchmeans.specs.Driving.{driven_names}
use Rattle.lnet_benchmeans.proofs.Middle.{gate_names, names_both, complements_drive, words_drive, tables_drive}
use Rattle.lnet_benchmeans.proofs.Nodes.{length_labels}
use Rattle.lnet_benchmeans.proofs.Once.{length-input_names, ports_drive}
use Rattle.lnet_benchmeans.proofs.Shown.{as_many_outputs, last_drive}
use Rattle.lnet_benchmeans.proofs.TableTexts.{tables_written}
use Rattle.lnet_benchmeans.proofs.WordTexts.{words_written}

-- ---- lists

few_inserted : (xs : List ℕ) (k : ℕ) → length (insert_key nat_cmp xs k) ≤ suc (length xs)
few_inserted [] k = omega arith
few_inserted (x ∷ xs) k =
    let h = few_inserted xs k in
    elim (nat_cmp k x) as (λ o. length (match_ordering o (k ∷ x ∷ xs) (x ∷ xs) (x ∷ insert_key nat_cmp xs k)) ≤ suc (length (x ∷ xs))) [ Less ↦ omega arith | Equal ↦ omega arith | Greater ↦ omega arith ]

few_folded : (xs ys : List ℕ) → length (fold (insert_key nat_cmp) xs ys) ≤ length xs + length ys
few_folded xs [] = omega arith
few_folded xs (y ∷ ys) = let h = few_inserted xs y in let g = few_folded (insert_key nat_cmp xs y) ys in omega arith

few_ascending : (keep : ℕ → Bool) (xs : List ℕ) → length (ascending (filter keep xs)) ≤ length xs
few_ascending keep xs = let f = few_folded [] (filter keep xs) in let g = length-filter keep xs in let h = count_by-le-length keep xs in omega arith

few_gate_names : (turned : ℕ → Bool) (ts : List ℕ) → length (flat_map (gate_names turned) ts) ≤ 2 * length ts
few_gate_names turned [] = omega arith
few_gate_names turned (t ∷ ts) =
    let h = few_gate_names turned ts in
    elim (turned t) as (λ b. length ((made_name 110 t ∷ cond b (made_name 99 t ∷ []) []) ++ flat_map (gate_names turned) ts) ≤ 2 * length (t ∷ ts)) [ true ↦ omega arith | false ↦ omega arith ]

-- ---- statements

-- each input and each equation drives a name
pub as_many_driven : (given : List StatementValue) (names : List (List ℕ)) (ss : List StatementValue) → length (inputs_by names ss) + length (equations_by (driven_by given) names ss) ≡ length (driven_names ss)
as_many_driven given names [] = refl
as_many_driven given names (Input name ∷ ss) = let h = as_many_driven given names ss in omega arith
as_many_driven given names (Output name ∷ ss) = as_many_driven given names ss
as_many_driven given names (Gate target rule operands ∷ ss) = let h = as_many_driven given names ss in omega arith
as_many_driven given names (Constant target value ∷ ss) = let h = as_many_driven given names ss in omega arith

few_with_ports : (c : CircuitValue) (form : List StatementValue) → length (driven_names (port_statements c ++ form)) ≡ length c.inputs + length (driven_names form)
few_with_ports c form =
    let both = ap length (names_both (port_statements c) form) in
    let sum = length-append (driven_names (port_statements c)) (driven_names form) in
    let ports = ap length (ports_drive c) in
    let labels = length-append (input_labels c.inputs) [] in
    let count = length_labels 105 0 [] (input_names c.inputs) ∙ length-input_names c.inputs in
    omega arith

few_tables : (c : CircuitValue) → length (driven_names (table_form_statements (label_of c) c)) ≤ 2 * length c.equations + length c.outputs
few_tables c =
    let label = label_of c in
    let names = output_labels c.inputs c.outputs in
    let gates = map (table_statement label) c.equations in
    let outs = output_statements (table_output_statement label) names c.outputs in
    let both = ap length (names_both gates outs) in
    let sum = length-append (driven_names gates) (driven_names outs) in
    let first = ap length (tables_drive label c.equations) in
    let few = few_gate_names (λ n. false) (targets c.equations) in
    let count = length-targets c.equations in
    let last = ap length (last_drive (λ r. And (not (r.wire.0 == 0) && r.complement)) (λ r. shown_name label r ∷ []) names c.outputs (as_many_outputs c)) in
    let many = as_many_outputs c in
    omega arith

few_words : (c : CircuitValue) → length (driven_names (word_form_statements (label_of c) (is_turned (uses_of c)) c)) ≤ length c.inputs + 2 * length c.equations + length c.outputs
few_words c =
    let label = label_of c in
    let turned = is_turned (uses_of c) in
    let names = output_labels c.inputs c.outputs in
    let ms = ascending (filter turned (input_wires c.inputs)) in
    let complements = input_complement_statements label turned c.inputs in
    let gates = flat_map (word_statements label turned) c.equations in
    let outs = output_statements (word_output_statement label) names c.outputs in
    let all = ap length (names_both complements (gates ++ outs)) in
    let all_sum = length-append (driven_names complements) (driven_names (gates ++ outs)) in
    let both = ap length (names_both gates outs) in
    let sum = length-append (driven_names gates) (driven_names outs) in
    let before = ap length (complements_drive label ms) ∙ length-map ms (made_name 99) in
    let few_before = few_ascending turned (input_wires c.inputs) in
    let inputs = length-input_wires c.inputs in
    let first = ap length (words_drive label turned c.equations) in
    let few = few_gate_names turned (targets c.equations) in
    let count = length-targets c.equations in
    let last = ap length (last_drive (λ r. And false) (λ r. use_name label r ∷ []) names c.outputs (as_many_outputs c)) in
    let many = as_many_outputs c in
    omega arith

-- a written text drives at most two names for each input and gate, and one for each output
pub few_driven : (c : CircuitValue) → length (driven_names (written_statements c)) ≤ 2 * (length c.inputs + length c.equations) + length c.outputs
few_driven c = by (has_tables c.equations) refl where
  by : (b : Bool) → has_tables c.equations ≡ b → length (driven_names (written_statements c)) ≤ 2 * (length c.inputs + length c.equations) + length c.outputs
  by true tables =
      let same = ap (λ (ss : List StatementValue). length (driven_names ss)) (tables_written c tables) in
      let all = few_with_ports c (table_form_statements (label_of c) c) in
      let few = few_tables c in
      omega arith
  by false words =
      let same = ap (λ (ss : List StatementValue). length (driven_names ss)) (words_written c words) in
      let all = few_with_ports c (word_form_statements (label_of c) (is_turned (uses_of c)) c) in
      let few = few_words c in
      omega arith
