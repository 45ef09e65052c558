-- What the texts of circuits spell, in either form.
use Rattle.std.proofs.Common.{◌≡◌, ℕ, suc, ◌≤◌, ◌^◌, Bool, true, false, cond, List, [], ◌∷◌, ◌++◌, length, map, Option, codes, refl, sym, ap, subst, ◌∙◌, arith, Ok}
use Rattle.std.specs.Prelude.{not, ◌&&◌, ◌||◌, ◌==◌, if◌then◌else◌}
use Rattle.std.specs.List.{list_all, flat_map, filter, AllByRecursion}
use Rattle.std.proofs.lemmas.Bool.{false≢true}
use Rattle.std.proofs.lemmas.List.{length-map}
use Rattle.std.proofs.lemmas.Bool.Decides.{nat_tests}
use Rattle.std.proofs.lemmas.List.Elements.{All-head, All-tail}
use Rattle.lnet_edge.specs.declared.circuit.InputPort.{InputPort}
use Rattle.lnet_edge.specs.declared.circuit.OutputPort.{OutputPort}
use Rattle.lnet_edge.specs.declared.circuit.Rule.{Rule}
use Rattle.lnet_edge.specs.declared.circuit.Rule.TheVariants.{And, Or, Xor, Maj, Lut, Cover}
use Rattle.lnet_edge.specs.declared.circuit.WireRef.{WireRef}
use Rattle.lnet_edge.specs.Circuits.{CircuitValue, EquationValue}
use Rattle.lnet_edge.specs.Plain.{is_gate, is_gate_equation, IsPlain}
use Rattle.lnet_edge.specs.Wires.{input_wires, HasArity, HasArities}
use Rattle.lnet_naming.specs.Settling.{made_name, input_labels, output_labels}
use Rattle.lnet_nodes.specs.Nodes.{label_of, node_name}
use Rattle.lnet_nodes.specs.Rows.{variables, gate_value}
use Rattle.lnet_nodes.proofs.GatesAt.{few_variables}
use Rattle.lnet_tables.specs.Bits.{number_by}
use Rattle.lnet_tables.proofs.RowNumbers.{number_below}
use Rattle.lnet_bench.specs.Statements.{StatementValue, Input, Output, Gate, Constant, is_name}
use Rattle.lnet_bench.specs.Texts.{statements_of}
use Rattle.lnet_benchwriter.specs.Nodes.{use_name, is_turned, uses_of}
use Rattle.lnet_tables.specs.Digits.{digit_count, hex_digits}
use Rattle.lnet_benchwriter.specs.Tables.{gate_table}
use Rattle.lnet_benchwriter.specs.Texts.{port_line, gate_line, constant_line, output_lines, gate_word, complement_line, ascending, input_complements, word_lines, word_output, table_word, table_line, shown_name, table_output, is_table_rule, has_tables, ports_text, word_form, table_form, form_text, bench_text}
use Rattle.lnet_benchtext.specs.Written.{HasNames, port_statements, output_statements, complement_statement, input_complement_statements, word_statements, word_output_statement, word_form_statements, table_statement, table_output_statement, table_form_statements, form_statements, written_statements}
use Rattle.lnet_benchtext.proofs.Cutting.{both_true}
use Rattle.lnet_benchtext.proofs.Decimals.{made_name-is}
use Rattle.lnet_benchtext.proofs.Spelling.{Spells, spells_none, spells_then, spells_each, spells_lines, statements_of-spelled}
use Rattle.lnet_benchtext.proofs.Lines.{IsWordOf, spells_input, spells_output, spells_constant, spells_gate}
use Rattle.lnet_benchtext.proofs.GateWords.{and_word, xor_word, not_word, buff_word, table_word as table_is_word}
use Rattle.lnet_benchtext.proofs.Labels.{NamesNodes, input_labels-names, output_labels-names, label_of-names, use_name-is, use_name-all, node_name-all, shown_name-is}

each : {X : Type 0} (P : X → Type 0) → ((x : X) → P x) → (xs : List X) → AllByRecursion P xs
each P all [] = tt
each P all (x ∷ xs) = (all x, each P all xs)

neither : (a b : Bool) → (a || b) ≡ false → (a ≡ false) × (b ≡ false)
neither true b e = absurd (false≢true (sym e))
neither false b e = (refl, e)

-- ---- ports

each_input : (names : List (List ℕ)) → list_all is_name names ≡ true → AllByRecursion (λ name. Spells (port_line (codes "INPUT") name) (Input name ∷ [])) names
each_input [] all = tt
each_input (x ∷ xs) all = let t = both_true (is_name x) (list_all is_name xs) all in (spells_input x t.0, each_input xs t.1)

each_output : (names : List (List ℕ)) → list_all is_name names ≡ true → AllByRecursion (λ name. Spells (port_line (codes "OUTPUT") name) (Output name ∷ [])) names
each_output [] all = tt
each_output (x ∷ xs) all = let t = both_true (is_name x) (list_all is_name xs) all in (spells_output x t.0, each_output xs t.1)

spells_ports : (c : CircuitValue) → HasNames c → Spells (ports_text c) (port_statements c)
spells_ports c has =
    spells_then (flat_map (port_line (codes "INPUT")) (input_labels c.inputs)) (flat_map (port_line (codes "OUTPUT")) (output_labels c.inputs c.outputs)) (map Input (input_labels c.inputs)) (map Output (output_labels c.inputs c.outputs))
    (spells_lines (port_line (codes "INPUT")) Input (input_labels c.inputs) (each_input (input_labels c.inputs) (input_labels-names c has)))
    (spells_lines (port_line (codes "OUTPUT")) Output (output_labels c.inputs c.outputs) (each_output (output_labels c.inputs c.outputs) (output_labels-names c has)))

-- ---- outputs

spells_outputs : (line : List ℕ → WireRef → List ℕ) (statement : List ℕ → WireRef → StatementValue) → ((name : List ℕ) (r : WireRef) → is_name name ≡ true → Spells (line name r) (statement name r ∷ [])) → (names : List (List ℕ)) (ps : List OutputPort) → list_all is_name names ≡ true → Spells (output_lines line names ps) (output_statements statement names ps)
spells_outputs line statement one [] ps all = spells_none
spells_outputs line statement one (x ∷ xs) [] all = spells_none
spells_outputs line statement one (x ∷ xs) (p ∷ ps) all =
    let t = both_true (is_name x) (list_all is_name xs) all in
    spells_then (line x p.source) (output_lines line xs ps) (statement x p.source ∷ []) (output_statements statement xs ps) (one x p.source t.0) (spells_outputs line statement one xs ps t.1)

-- ---- gates with words

spells_complement : (label : ℕ → Option (List ℕ)) → NamesNodes label → (n : ℕ) → Spells (complement_line label n) (complement_statement label n ∷ [])
spells_complement label named n = spells_gate (made_name 99 n) (codes "NOT") (node_name label n) [] (And true) (made_name-is 99 n refl) (named n) refl not_word

spells_input_complements : (label : ℕ → Option (List ℕ)) (turned : ℕ → Bool) (inputs : List InputPort) → NamesNodes label → Spells (input_complements label turned inputs) (input_complement_statements label turned inputs)
spells_input_complements label turned inputs named = spells_lines (complement_line label) (complement_statement label) (ascending (filter turned (input_wires inputs))) (each (λ n. Spells (complement_line label n) (complement_statement label n ∷ [])) (spells_complement label named) (ascending (filter turned (input_wires inputs))))

spells_word_gate : (label : ℕ → Option (List ℕ)) (target : ℕ) (rule : Rule) (operands : List WireRef) → NamesNodes label → is_gate rule (length operands) ≡ true → is_table_rule rule ≡ false → Spells (gate_line (made_name 110 target) (gate_word rule) (map (use_name label) operands)) (Gate (made_name 110 target) rule (map (use_name label) operands) ∷ [])
spells_word_gate label target (And c) [] named gate word = absurd (false≢true gate)
spells_word_gate label target (And c) (r ∷ rs) named gate word = spells_gate (made_name 110 target) (gate_word (And c)) (use_name label r) (map (use_name label) rs) (And c) (made_name-is 110 target refl) (use_name-is label r named) (use_name-all label rs named) (and_word c (suc (length (map (use_name label) rs))))
spells_word_gate label target (Xor c) [] named gate word = absurd (false≢true gate)
spells_word_gate label target (Xor c) (r ∷ rs) named gate word = spells_gate (made_name 110 target) (gate_word (Xor c)) (use_name label r) (map (use_name label) rs) (Xor c) (made_name-is 110 target refl) (use_name-is label r named) (use_name-all label rs named) (xor_word c (suc (length (map (use_name label) rs))))
spells_word_gate label target (Or c) operands named gate word = absurd (false≢true gate)
spells_word_gate label target (Maj c) operands named gate word = absurd (false≢true (sym word))
spells_word_gate label target (Lut t) operands named gate word = absurd (false≢true (sym word))
spells_word_gate label target (Cover c) operands named gate word = absurd (false≢true gate)

spells_word_lines : (label : ℕ → Option (List ℕ)) (turned : ℕ → Bool) (e : EquationValue) → NamesNodes label → is_gate_equation e ≡ true → is_table_rule e.rule ≡ false → Spells (word_lines label turned e) (word_statements label turned e)
spells_word_lines label turned e named gate word =
    spells_then (gate_line (made_name 110 e.target) (gate_word e.rule) (map (use_name label) e.operands)) (if turned e.target then complement_line label e.target else []) (Gate (made_name 110 e.target) e.rule (map (use_name label) e.operands) ∷ []) (if turned e.target then complement_statement label e.target ∷ [] else [])
    (spells_word_gate label e.target e.rule e.operands named gate word)
    (elim (turned e.target) as (λ b. Spells (cond b (complement_line label e.target) []) (cond b (complement_statement label e.target ∷ []) [])) [ true ↦ spells_complement label named e.target | false ↦ spells_none ])

each_word_lines : (label : ℕ → Option (List ℕ)) (turned : ℕ → Bool) (es : List EquationValue) → NamesNodes label → list_all is_gate_equation es ≡ true → has_tables es ≡ false → AllByRecursion (λ e. Spells (word_lines label turned e) (word_statements label turned e)) es
each_word_lines label turned [] named gates words = tt
each_word_lines label turned (e ∷ es) named gates words =
    let g = both_true (is_gate_equation e) (list_all is_gate_equation es) gates in
    let w = neither (is_table_rule e.rule) (has_tables es) words in
    (spells_word_lines label turned e named g.0 w.0, each_word_lines label turned es named g.1 w.1)

spells_word_output : (label : ℕ → Option (List ℕ)) → NamesNodes label → (name : List ℕ) (r : WireRef) → is_name name ≡ true → Spells (word_output label name r) (word_output_statement label name r ∷ [])
spells_word_output label named name r is = spells_gate name (codes "BUFF") (use_name label r) [] (And false) is (use_name-is label r named) refl buff_word

spells_word_form : (label : ℕ → Option (List ℕ)) (turned : ℕ → Bool) (c : CircuitValue) → HasNames c → NamesNodes label → list_all is_gate_equation c.equations ≡ true → has_tables c.equations ≡ false → Spells (word_form label turned c) (word_form_statements label turned c)
spells_word_form label turned c has named gates words =
    let names = output_labels c.inputs c.outputs in
    spells_then (input_complements label turned c.inputs) (flat_map (word_lines label turned) c.equations ++ output_lines (word_output label) names c.outputs) (input_complement_statements label turned c.inputs) (flat_map (word_statements label turned) c.equations ++ output_statements (word_output_statement label) names c.outputs)
    (spells_input_complements label turned c.inputs named)
    (spells_then (flat_map (word_lines label turned) c.equations) (output_lines (word_output label) names c.outputs) (flat_map (word_statements label turned) c.equations) (output_statements (word_output_statement label) names c.outputs)
    (spells_each (word_lines label turned) (word_statements label turned) c.equations (each_word_lines label turned c.equations named gates words))
    (spells_outputs (word_output label) (word_output_statement label) (spells_word_output label named) names c.outputs (output_labels-names c has)))

-- ---- gates with tables

few_operands : (r : Rule) (n : ℕ) → is_gate r n ≡ true → HasArity r n → n ≤ 6
few_operands (And c) n gate h = grind (arith, nat_tests)
few_operands (Or c) n gate h = absurd (false≢true gate)
few_operands (Xor c) n gate h = grind (arith, nat_tests)
few_operands (Maj c) n gate h = omega arith
few_operands (Lut t) n gate h = h
few_operands (Cover c) n gate h = absurd (false≢true gate)

table_line-none : (label : ℕ → Option (List ℕ)) (e : EquationValue) → variables e.operands ≡ [] → table_line label e ≡ constant_line (made_name 110 e.target) (gate_table e == 1)
table_line-none label e is = rw is (ap (λ (vs : List WireRef). constant_line (made_name 110 e.target) (number_by (gate_value e) (2 ^ length vs) == 1)) is)

pub table_statement-none : (label : ℕ → Option (List ℕ)) (e : EquationValue) → variables e.operands ≡ [] → table_statement label e ≡ Constant (made_name 110 e.target) (gate_table e == 1)
table_statement-none label e is = rw is (ap (λ (vs : List WireRef). Constant (made_name 110 e.target) (number_by (gate_value e) (2 ^ length vs) == 1)) is)

abbrev pub operand_names : (ℕ → Option (List ℕ)) → List WireRef → List (List ℕ)
operand_names label rs = map (λ (v : WireRef). node_name label v.wire.0) rs

table_line-some : (label : ℕ → Option (List ℕ)) (e : EquationValue) (r : WireRef) (rs : List WireRef) → variables e.operands ≡ r ∷ rs → table_line label e ≡ gate_line (made_name 110 e.target) (table_word e) (operand_names label (r ∷ rs))
table_line-some label e r rs is = rw is (ap (λ (vs : List WireRef). gate_line (made_name 110 e.target) (codes "LUT 0x" ++ (hex_digits (digit_count (length vs)) (number_by (gate_value e) (2 ^ length vs)) ++ codes " ")) (operand_names label (r ∷ rs))) is)

pub table_statement-some : (label : ℕ → Option (List ℕ)) (e : EquationValue) (r : WireRef) (rs : List WireRef) → variables e.operands ≡ r ∷ rs → table_statement label e ≡ Gate (made_name 110 e.target) (Lut (gate_table e)) (operand_names label (r ∷ rs))
table_statement-some label e r rs is = rw is (ap (λ (vs : List WireRef). Gate (made_name 110 e.target) (Lut (number_by (gate_value e) (2 ^ length vs))) (operand_names label (r ∷ rs))) is)

same_spelled : (text other : List ℕ) (s t : StatementValue) → text ≡ other → s ≡ t → Spells other (t ∷ []) → Spells text (s ∷ [])
same_spelled text other s t texts statements spells = subst (λ (u : List ℕ). Spells u (s ∷ [])) (sym texts) (subst (λ (v : StatementValue). Spells other (v ∷ [])) (sym statements) spells)

spells_table_gate : (label : ℕ → Option (List ℕ)) (e : EquationValue) (r : WireRef) (rs : List WireRef) → NamesNodes label → length (variables e.operands) ≤ 6 → variables e.operands ≡ r ∷ rs → Spells (gate_line (made_name 110 e.target) (table_word e) (operand_names label (r ∷ rs))) (Gate (made_name 110 e.target) (Lut (gate_table e)) (operand_names label (r ∷ rs)) ∷ [])
spells_table_gate label e r rs named few is =
    let count : length (variables e.operands) ≡ suc (length (operand_names label rs)) = ap length is ∙ ap suc (sym (length-map rs (λ (v : WireRef). node_name label v.wire.0))) in
    let word = table_is_word (length (variables e.operands)) (gate_table e) few (number_below (gate_value e) (2 ^ length (variables e.operands))) in
    spells_gate (made_name 110 e.target) (table_word e) (node_name label r.wire.0) (operand_names label rs) (Lut (gate_table e)) (made_name-is 110 e.target refl) (named r.wire.0) (node_name-all label rs named) (subst (λ (n : ℕ). IsWordOf (table_word e) (Lut (gate_table e)) n) count word)

spells_table_line : (label : ℕ → Option (List ℕ)) (e : EquationValue) → NamesNodes label → length (variables e.operands) ≤ 6 → Spells (table_line label e) (table_statement label e ∷ [])
spells_table_line label e named few = by (variables e.operands) refl where
  by : (vs : List WireRef) → variables e.operands ≡ vs → Spells (table_line label e) (table_statement label e ∷ [])
  by [] is = same_spelled (table_line label e) _ (table_statement label e) _ (table_line-none label e is) (table_statement-none label e is) (spells_constant (made_name 110 e.target) (gate_table e == 1) (made_name-is 110 e.target refl))
  by (r ∷ rs) is = same_spelled (table_line label e) _ (table_statement label e) _ (table_line-some label e r rs is) (table_statement-some label e r rs is) (spells_table_gate label e r rs named few is)

each_table_line : (label : ℕ → Option (List ℕ)) (es : List EquationValue) → NamesNodes label → list_all is_gate_equation es ≡ true → HasArities es → AllByRecursion (λ e. Spells (table_line label e) (table_statement label e ∷ [])) es
each_table_line label [] named gates arities = tt
each_table_line label (e ∷ es) named gates arities =
    let g = both_true (is_gate_equation e) (list_all is_gate_equation es) gates in
    let h = few_operands e.rule (length e.operands) g.0 (All-head (λ (e : EquationValue). HasArity e.rule (length e.operands)) e es arities) in
    let v = few_variables e.operands in
    (spells_table_line label e named (omega arith), each_table_line label es named g.1 (All-tail (λ (e : EquationValue). HasArity e.rule (length e.operands)) e es arities))

spells_table_output : (label : ℕ → Option (List ℕ)) → NamesNodes label → (name : List ℕ) (r : WireRef) → is_name name ≡ true → Spells (table_output label name r) (table_output_statement label name r ∷ [])
spells_table_output label named name r is = by (not (r.wire.0 == 0) && r.complement) where
  by : (b : Bool) → Spells (gate_line name (cond b (codes "NOT") (codes "BUFF")) (shown_name label r ∷ [])) (Gate name (And b) (shown_name label r ∷ []) ∷ [])
  by true = spells_gate name (codes "NOT") (shown_name label r) [] (And true) is (shown_name-is label r named) refl not_word
  by false = spells_gate name (codes "BUFF") (shown_name label r) [] (And false) is (shown_name-is label r named) refl buff_word

spells_table_form : (label : ℕ → Option (List ℕ)) (c : CircuitValue) → HasNames c → NamesNodes label → list_all is_gate_equation c.equations ≡ true → HasArities c.equations → Spells (table_form label c) (table_form_statements label c)
spells_table_form label c has named gates arities =
    let names = output_labels c.inputs c.outputs in
    spells_then (flat_map (table_line label) c.equations) (output_lines (table_output label) names c.outputs) (map (table_statement label) c.equations) (output_statements (table_output_statement label) names c.outputs)
    (spells_lines (table_line label) (table_statement label) c.equations (each_table_line label c.equations named gates arities))
    (spells_outputs (table_output label) (table_output_statement label) (spells_table_output label named) names c.outputs (output_labels-names c has))

-- ---- texts

spells_form : (label : ℕ → Option (List ℕ)) (c : CircuitValue) → HasNames c → NamesNodes label → list_all is_gate_equation c.equations ≡ true → HasArities c.equations → Spells (form_text label c) (form_statements label c)
spells_form label c has named gates arities =
    elim (has_tables c.equations) as (λ b. has_tables c.equations ≡ b → Spells (cond b (table_form label c) (word_form label (is_turned (uses_of c)) c)) (cond b (table_form_statements label c) (word_form_statements label (is_turned (uses_of c)) c))) [
      | true ↦ λ t. spells_table_form label c has named gates arities
      | false ↦ λ t. spells_word_form label (is_turned (uses_of c)) c has named gates t
    ] refl

pub written-read : (c : CircuitValue) → HasNames c → IsPlain c.equations → HasArities c.equations → statements_of (bench_text c) ≡ Ok (written_statements c)
written-read c has plain arities =
    statements_of-spelled (bench_text c) (written_statements c) (spells_then (ports_text c) (form_text (label_of c) c) (port_statements c) (form_statements (label_of c) c) (spells_ports c has) (spells_form (label_of c) c has (label_of-names c has) plain.gates arities))
