-- No name is driven twice.
use Rattle.std.proofs.Common.{◌≡◌, ◌≢◌, ℕ, suc, ◌+◌, ◌<◌, ◌≤◌, ◌^◌, Bool, true, false, cond, List, [], ◌∷◌, ◌++◌, length, map, Option, refl, sym, ap, subst, ◌∙◌, append_assoc, inl, inr, arith}
use Rattle.std.specs.Prelude.{not, ◌&&◌, ◌==◌}
use Rattle.std.specs.List.{AllByRecursion, IsDistinct, flat_map, filter}
use Rattle.std.specs.Str.{bytes_eq}
use Rattle.std.proofs.lemmas.Bool.{false≢true}
use Rattle.lnet_edge.specs.declared.circuit.InputPort.{InputPort}
use Rattle.lnet_edge.specs.declared.circuit.OutputPort.{OutputPort}
use Rattle.lnet_edge.specs.declared.circuit.Rule.{Rule}
use Rattle.lnet_edge.specs.declared.circuit.Rule.TheVariants.{And}
use Rattle.lnet_edge.specs.declared.circuit.WireRef.{WireRef}
use Rattle.lnet_edge.specs.Circuits.{CircuitValue}
use Rattle.lnet_edge.specs.Wires.{input_wires, targets, driven_wires, IsCircuit}
use Rattle.lnet_wires.specs.Naming.{is_seen}
use Rattle.lnet_naming.specs.Settling.{made_name, settle_all, input_labels, output_labels}
use Rattle.lnet_edge.specs.Shown.{input_names, output_names}
use Rattle.lnet_nodes.specs.Nodes.{label_of}
use Rattle.lnet_bench.specs.Statements.{StatementValue, Input, Output, Gate}
use Rattle.lnet_benchwriter.specs.Nodes.{is_turned, uses_of, use_name}
use Rattle.lnet_benchwriter.specs.Texts.{ascending, has_tables, shown_name}
use Rattle.lnet_benchtext.specs.Written.{port_statements, output_statements, input_complement_statements, word_statements, word_output_statement, word_form_statements, table_statement, table_output_statement, table_form_statements, form_statements, written_statements}
use Rattle.lnet_benchmeans.specs.Driving.{HasWires, driven_names}
use Rattle.lnet_benchmeans.proofs.Differing.{Differ, all_both, all_weak, all_first, all_second, differ_both, differ_second, differ_apart, apart_by, distinct_names, differ_once}
use Rattle.lnet_benchmeans.proofs.Settled.{letters_apart, made_apart, IsLabel, IsRun, runs}
use Rattle.lnet_benchmeans.proofs.Middle.{IsSmall, IsNodeName, IsPortLetter, label_node, gate_names, IsMiddle, gates_middle, words_middle, names_both, complements_drive, words_drive, tables_drive}

-- ---- names of ports

pub length-input_names : (ps : List InputPort) → length (input_names ps) ≡ length ps
length-input_names [] = refl
length-input_names (p ∷ ps) = ap suc (length-input_names ps)

pub length-output_names : (ps : List OutputPort) → length (output_names ps) ≡ length ps
length-output_names [] = refl
length-output_names (p ∷ ps) = ap suc (length-output_names ps)

-- the names that inputs keep
abbrev pub kept_of : CircuitValue → List (List ℕ)
kept_of c = (settle_all 105 0 [] (input_names c.inputs)).1

pub inputs_run : (c : CircuitValue) → IsCircuit c → IsRun 105 0 (0 + length (input_names c.inputs)) [] (settle_all 105 0 [] (input_names c.inputs))
inputs_run c is = runs 105 0 [] (input_names c.inputs) refl (let n = length-input_names c.inputs in let few = is.few in omega arith)

pub outputs_run : (c : CircuitValue) → IsCircuit c → IsRun 111 0 (0 + length (output_names c.outputs)) (kept_of c) (settle_all 111 0 (kept_of c) (output_names c.outputs))
outputs_run c is = runs 111 0 (kept_of c) (output_names c.outputs) refl (let n = length-output_names c.outputs in let few = is.few_outputs in omega arith)

-- a name of an input, and one of an output
pub ports_apart : (m n : ℕ) (kept : List (List ℕ)) → m ≤ 2 ^ 64 → n ≤ 2 ^ 64 → (x y : List ℕ) → IsLabel 105 0 m kept true x → IsLabel 111 0 n kept false y → x ≢ y
ports_apart m n kept first second x y (inl p) (inl q) e = letters_apart 105 111 p.0 q.0 (λ h. omega arith) (sym p.3 ∙ e ∙ q.3)
ports_apart m n kept first second x y (inl p) (inr q) e = let low = p.2 in made_apart 105 p.0 y refl (omega arith) q.0 (sym p.3 ∙ e)
ports_apart m n kept first second x y (inr p) (inl q) e = let low = q.2 in made_apart 111 q.0 x refl (omega arith) p.0 (sym (e ∙ q.3))
ports_apart m n kept first second x y (inr p) (inr q) e = false≢true (sym q.1 ∙ ap (is_seen kept) (sym e) ∙ p.1)

-- ---- names of outputs that are driven

-- a statement of an output drives its name
abbrev pub shows : (WireRef → Rule) → (WireRef → List (List ℕ)) → List ℕ → WireRef → StatementValue
shows rule operands name r = Gate name (rule r) (operands r)

all_shown : (P : List ℕ → Type 0) (rule : WireRef → Rule) (operands : WireRef → List (List ℕ)) (names : List (List ℕ)) (ps : List OutputPort) → AllByRecursion P names → AllByRecursion P (driven_names (output_statements (shows rule operands) names ps))
all_shown P rule operands [] ps all = tt
all_shown P rule operands (name ∷ names) [] all = tt
all_shown P rule operands (name ∷ names) (p ∷ ps) all = (all.0, all_shown P rule operands names ps all.1)

differ_shown : (rule : WireRef → Rule) (operands : WireRef → List (List ℕ)) (names : List (List ℕ)) (ps : List OutputPort) → Differ names → Differ (driven_names (output_statements (shows rule operands) names ps))
differ_shown rule operands [] ps differ = tt
differ_shown rule operands (name ∷ names) [] differ = tt
differ_shown rule operands (name ∷ names) (p ∷ ps) differ = (all_shown (λ y. name ≢ y) rule operands names ps differ.0, differ_shown rule operands names ps differ.1)

pub inputs_drive : (names : List (List ℕ)) → driven_names (map Input names) ≡ names
inputs_drive [] = refl
inputs_drive (name ∷ names) = ap (λ (xs : List (List ℕ)). name ∷ xs) (inputs_drive names)

outputs_drive_none : (names : List (List ℕ)) → driven_names (map Output names) ≡ []
outputs_drive_none [] = refl
outputs_drive_none (name ∷ names) = outputs_drive_none names

pub ports_drive : (c : CircuitValue) → driven_names (port_statements c) ≡ input_labels c.inputs ++ []
ports_drive c =
    names_both (map Input (input_labels c.inputs)) (map Output (output_labels c.inputs c.outputs))
    ∙ ap (λ (xs : List (List ℕ)). xs ++ driven_names (map Output (output_labels c.inputs c.outputs))) (inputs_drive (input_labels c.inputs))
    ∙ ap (λ (xs : List (List ℕ)). input_labels c.inputs ++ xs) (outputs_drive_none (output_labels c.inputs c.outputs))

-- ---- all together

-- names of inputs, of nodes, and of the outputs that are driven
whole_differ : (c : CircuitValue) → IsCircuit c → (rule : WireRef → Rule) (operands : WireRef → List (List ℕ)) (names : List (List ℕ)) → IsMiddle names → Differ ((input_labels c.inputs ++ []) ++ (names ++ driven_names (output_statements (shows rule operands) (output_labels c.inputs c.outputs) c.outputs)))
whole_differ c is rule operands names middle =
    let first = inputs_run c is in
    let last = outputs_run c is in
    let is_in = IsLabel 105 0 (0 + length (input_names c.inputs)) (kept_of c) true in
    let is_out = IsLabel 111 0 (0 + length (output_names c.outputs)) (kept_of c) false in
    let shown = driven_names (output_statements (shows rule operands) (output_labels c.inputs c.outputs) c.outputs) in
    let shown_are = all_shown is_out rule operands (output_labels c.inputs c.outputs) c.outputs last.fresh in
    let ins_are = all_both is_in (input_labels c.inputs) [] first.stand tt in
    let port_in : IsPortLetter 105 = ((λ h. omega arith), (λ h. omega arith)) in
    let port_out : IsPortLetter 111 = ((λ h. omega arith), (λ h. omega arith)) in
    let m = length-input_names c.inputs in
    let n = length-output_names c.outputs in
    let few = is.few in
    let few_outputs = is.few_outputs in
    differ_both (input_labels c.inputs ++ []) (names ++ shown)
    (differ_both (input_labels c.inputs) [] first.differ tt (all_weak is_in (λ x. Unit {0}) (input_labels c.inputs) (λ x p. tt) first.stand))
    (differ_both names shown middle.differ (differ_shown rule operands (output_labels c.inputs c.outputs) c.outputs last.differ)
    (apart_by (IsNodeName IsSmall) is_out names shown (λ x y p q e. label_node 111 0 (0 + length (output_names c.outputs)) (kept_of c) false port_out y x q p (sym e)) middle.nodes shown_are))
    (all_weak is_in (λ x. AllByRecursion (λ y. x ≢ y) (names ++ shown)) (input_labels c.inputs ++ [])
    (λ x p. all_both (λ y. x ≢ y) names shown
    (all_weak (IsNodeName IsSmall) (λ y. x ≢ y) names (λ y q. label_node 105 0 (0 + length (input_names c.inputs)) (kept_of c) true port_in x y p q) middle.nodes)
    (all_weak is_out (λ y. x ≢ y) shown (λ y q. ports_apart (0 + length (input_names c.inputs)) (0 + length (output_names c.outputs)) (kept_of c) (omega arith) (omega arith) x y p q) shown_are))
    ins_are)

-- the wires that inputs and equations drive
pub wires_differ : (c : CircuitValue) → IsCircuit c → Differ (input_wires c.inputs ++ targets c.equations)
wires_differ c is = (differ_once (driven_wires c) is.once).1

pub wires_small : (c : CircuitValue) → HasWires c → AllByRecursion IsSmall (input_wires c.inputs ++ targets c.equations)
wires_small c wires = all_weak (λ (w : ℕ). w < 2 ^ 32) IsSmall (input_wires c.inputs ++ targets c.equations) (λ w small. omega arith) wires.1

words_differ : (c : CircuitValue) → HasWires c → IsCircuit c → (label : ℕ → Option (List ℕ)) (turned : ℕ → Bool) → Differ ((input_labels c.inputs ++ []) ++ driven_names (word_form_statements label turned c))
words_differ c wires is label turned =
    let ins = input_wires c.inputs in
    let ts = targets c.equations in
    let outs = output_statements (word_output_statement label) (output_labels c.inputs c.outputs) c.outputs in
    let gates = flat_map (word_statements label turned) c.equations in
    let same : driven_names (word_form_statements label turned c) ≡ (map (made_name 99) (ascending (filter turned ins)) ++ flat_map (gate_names turned) ts) ++ driven_names outs =
    names_both (input_complement_statements label turned c.inputs) (gates ++ outs)
    ∙ ap (λ (xs : List (List ℕ)). driven_names (input_complement_statements label turned c.inputs) ++ xs) (names_both gates outs)
    ∙ ap (λ (xs : List (List ℕ)). xs ++ (driven_names gates ++ driven_names outs)) (complements_drive label (ascending (filter turned ins)))
    ∙ ap (λ (xs : List (List ℕ)). map (made_name 99) (ascending (filter turned ins)) ++ (xs ++ driven_names outs)) (words_drive label turned c.equations)
    ∙ sym (append_assoc (map (made_name 99) (ascending (filter turned ins))) (flat_map (gate_names turned) ts) (driven_names outs)) in
    let small = wires_small c wires in
    let differ = wires_differ c is in
    let middle = words_middle turned ins ts (all_first IsSmall ins ts small) (all_second IsSmall ins ts small) (differ_second ins ts differ) (differ_apart ins ts differ) in
    let names = map (made_name 99) (ascending (filter turned ins)) ++ flat_map (gate_names turned) ts in
    subst (λ (xs : List (List ℕ)). Differ ((input_labels c.inputs ++ []) ++ xs)) (sym same)
    (whole_differ c is (λ r. And false) (λ r. use_name label r ∷ []) names middle)

tables_differ : (c : CircuitValue) → HasWires c → IsCircuit c → (label : ℕ → Option (List ℕ)) → Differ ((input_labels c.inputs ++ []) ++ driven_names (table_form_statements label c))
tables_differ c wires is label =
    let ins = input_wires c.inputs in
    let ts = targets c.equations in
    let outs = output_statements (table_output_statement label) (output_labels c.inputs c.outputs) c.outputs in
    let small = wires_small c wires in
    let differ = wires_differ c is in
    let middle = gates_middle (λ n. false) ts (all_second IsSmall ins ts small) (differ_second ins ts differ) in
    let same : driven_names (table_form_statements label c) ≡ flat_map (gate_names (λ n. false)) ts ++ driven_names outs =
    names_both (map (table_statement label) c.equations) outs
    ∙ ap (λ (xs : List (List ℕ)). xs ++ driven_names outs) (tables_drive label c.equations) in
    subst (λ (xs : List (List ℕ)). Differ ((input_labels c.inputs ++ []) ++ xs)) (sym same)
    (whole_differ c is (λ r. And (not (r.wire.0 == 0) && r.complement)) (λ r. shown_name label r ∷ []) (flat_map (gate_names (λ n. false)) ts) middle)

form_differ : (c : CircuitValue) → HasWires c → IsCircuit c → (label : ℕ → Option (List ℕ)) → Differ ((input_labels c.inputs ++ []) ++ driven_names (form_statements label c))
form_differ c wires is label =
    elim (has_tables c.equations) as (λ b. Differ ((input_labels c.inputs ++ []) ++ driven_names (cond b (table_form_statements label c) (word_form_statements label (is_turned (uses_of c)) c)))) [
      | true ↦ tables_differ c wires is label
      | false ↦ words_differ c wires is label (is_turned (uses_of c))
    ]

pub names_differ : (c : CircuitValue) → HasWires c → IsCircuit c → Differ (driven_names (written_statements c))
names_differ c wires is =
    subst Differ (sym (names_both (port_statements c) (form_statements (label_of c) c) ∙ ap (λ (xs : List (List ℕ)). xs ++ driven_names (form_statements (label_of c) c)) (ports_drive c))) (form_differ c wires is (label_of c))

pub driven_once : (c : CircuitValue) → HasWires c → IsCircuit c → IsDistinct bytes_eq (driven_names (written_statements c))
driven_once c wires is = distinct_names (driven_names (written_statements c)) (names_differ c wires is)
