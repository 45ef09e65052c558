-- What is written means a circuit that shows the same.
use Rattle.std.proofs.Common.{◌≡◌, ℕ, suc, ◌+◌, ◌*◌, ◌/◌, ◌<◌, ◌≤◌, List, [], ◌∷◌, ◌++◌, length, map, flat_map, get_or, Option, None, refl, sym, ap, subst, ◌∙◌, append_assoc, arith, lit≤}
use Rattle.std.specs.Prelude.{codes}
use Rattle.std.specs.Fmt.{decimal}
use Rattle.std.specs.List.{range_with_len}
use Rattle.std.proofs.lemmas.List.{append-nil, length-map}
use Rattle.lnet_edge.specs.declared.circuit.InputPort.{InputPort}
use Rattle.lnet_edge.specs.declared.circuit.OutputPort.{OutputPort}
use Rattle.lnet_edge.specs.Circuits.{CircuitValue, EquationValue}
use Rattle.lnet_edge.specs.Wires.{input_wires, output_wires, IsCircuit}
use Rattle.lnet_lines.specs.Lines.{lines_of}
use Rattle.lnet_aiger.specs.declared.body.Gate.{Gate}
use Rattle.lnet_aiger.specs.declared.header.Form.{Form}
use Rattle.lnet_aiger.specs.declared.header.Form.TheVariants.{Ascii, Binary}
use Rattle.lnet_aiger.specs.declared.header.Header.{Header}
use Rattle.lnet_aiger.specs.Header.{header_line}
use Rattle.lnet_aiger.specs.LineRules.{equation_of, input_line, output_line, equation_line}
use Rattle.lnet_aiger.specs.Symbols.{Ports}
use Rattle.lnet_aiger.specs.Texts.{IsWritable, variable_of, literal_of, gate_of, header_text, input_text, output_text, gate_text, delta_text, symbols_text, names_text, ascii_text, binary_text}
use Rattle.lnet_edge.specs.Shown.{input_names, output_names}
use Rattle.lnet_aiger.specs.Written.{written_input, written_output, written_by, HasNames, MeansSame}
use Rattle.lnet_aiger.specs.Grammar.{AreLines, AreNamed, IsBody, HasCounts, Spells}
use Rattle.lnet_aiger.proofs.Variables.{input_variable}
use Rattle.lnet_aiger.proofs.NumberedOf.{get_or-map_low, gate_ok, output_low, literal_low}
use Rattle.lnet_aiger.proofs.SameOutputs.{IsCircuit-written, same_outputs}
use Rattle.lnet_aiger.proofs.TextLines.{AreText, text-decimal, first_line-text, after_line-text, some_text}
use Rattle.lnet_aiger.proofs.TextSections.{lines_text, input_line-decimal, output_line-decimal, gate_words, gate_words-text, gate_words-line, equation_line-words, header_words, header_line-ascii, header_line-binary, header_words-text, header_text-line}
use Rattle.lnet_aiger.proofs.TextGates.{gate_in_order, gates_text}
use Rattle.lnet_aiger.proofs.TextNames.{bare_input, bare_output, inputs_named, outputs_named}

-- the circuit without names
abbrev bare : (ℕ → ℕ) → CircuitValue → CircuitValue
bare variable c = record { inputs = map (bare_input variable) c.inputs; outputs = map (bare_output variable) c.outputs; equations = map (λ e. equation_of (gate_of variable e)) c.equations }

-- ---- sections

inputs_text : (c : CircuitValue) → IsCircuit c → IsWritable c → (rest : List ℕ) → AreLines (input_line (length c.inputs + length c.equations)) (flat_map (input_text (variable_of c)) c.inputs ++ rest) (map (bare_input (variable_of c)) c.inputs) rest
inputs_text c is ok rest =
    let v = variable_of c in
    lines_text (input_line (length c.inputs + length c.equations)) (λ (p : InputPort). decimal (2 * v p.wire.0)) (bare_input v) c.inputs rest
    (λ k d low.
    let wire : get_or (input_wires c.inputs) k 0 ≡ (get_or c.inputs k d).wire.0 = get_or-map_low (λ (p : InputPort). p.wire.0) c.inputs k d 0 low in
    let place : v (get_or c.inputs k d).wire.0 ≡ 1 + k = ap v (sym wire) ∙ input_variable c is k low in
    let few = ok.few in
    (text-decimal (2 * v (get_or c.inputs k d).wire.0) (omega arith), input_line-decimal (length c.inputs + length c.equations) (2 * v (get_or c.inputs k d).wire.0) (omega arith) (omega arith) (omega arith) (omega arith)))

outputs_text : (c : CircuitValue) → IsCircuit c → IsWritable c → (rest : List ℕ) → AreLines (output_line (length c.inputs + length c.equations)) (flat_map (output_text (variable_of c)) c.outputs ++ rest) (map (bare_output (variable_of c)) c.outputs) rest
outputs_text c is ok rest =
    let v = variable_of c in
    lines_text (output_line (length c.inputs + length c.equations)) (λ (p : OutputPort). decimal (literal_of v p.source)) (bare_output v) c.outputs rest
    (λ k d low.
    let wire : get_or (output_wires c.outputs) k 0 ≡ (get_or c.outputs k d).source.wire.0 = get_or-map_low (λ (p : OutputPort). p.source.wire.0) c.outputs k d 0 low in
    let place : v (get_or c.outputs k d).source.wire.0 ≤ length c.inputs + length c.equations = subst (λ (w : ℕ). v w ≤ length c.inputs + length c.equations) wire (output_low c is k low) in
    let lit = literal_low v (get_or c.outputs k d).source (suc (length c.inputs + length c.equations)) (omega arith) in
    let few = ok.few in
    (text-decimal (literal_of v (get_or c.outputs k d).source) (omega arith), output_line-decimal (length c.inputs + length c.equations) (literal_of v (get_or c.outputs k d).source) (omega arith) (omega arith)))

equations_text : (c : CircuitValue) → IsCircuit c → IsWritable c → (rest : List ℕ) → AreLines (equation_line (length c.inputs + length c.equations)) (flat_map (λ e. gate_text (gate_of (variable_of c) e)) c.equations ++ rest) (map (λ e. equation_of (gate_of (variable_of c) e)) c.equations) rest
equations_text c is ok rest =
    let v = variable_of c in
    let top : ℕ = length c.inputs + length c.equations in
    let same : (λ (e : EquationValue). gate_words (gate_of v e) ++ 10 ∷ []) ≡ (λ (e : EquationValue). gate_text (gate_of v e)) = λ i e. sym (gate_words-line (gate_of v e)) i in
    subst (λ (f : EquationValue → List ℕ). AreLines (equation_line top) (flat_map f c.equations ++ rest) (map (λ e. equation_of (gate_of v e)) c.equations) rest) same
    (lines_text (equation_line top) (λ (e : EquationValue). gate_words (gate_of v e)) (λ (e : EquationValue). equation_of (gate_of v e)) c.equations rest
    (λ k d low.
    let g : Gate = gate_of v (get_or c.equations k d) in
    let ok2 = gate_in_order v ((length c.inputs + 1) + k) (get_or c.equations k d) (gate_ok c is ok k d low) in
    let few = ok.few in
    let t0 = ok2.target in
    let t1 = ok2.first in
    let t2 = ok2.second in
    (gate_words-text g (omega arith) (omega arith) (omega arith), equation_line-words top g (omega arith) (omega arith) (omega arith) (omega arith) (omega arith) (omega arith) (omega arith) (omega arith))))

names_given : (c : CircuitValue) → (variable : ℕ → ℕ) → HasNames (input_names c.inputs) → HasNames (output_names c.outputs) → length c.inputs ≤ 1048576 → length c.outputs ≤ 100000000
    → AreNamed (lines_of (names_text c)) (record { inputs = map (bare_input variable) c.inputs; outputs = map (bare_output variable) c.outputs }) (record { inputs = map (written_input variable) c.inputs; outputs = map (written_output variable) c.outputs })
names_given c variable ins outs few few_outputs =
    let all : Ports = record { inputs = map (written_input variable) c.inputs; outputs = map (written_output variable) c.outputs } in
    let last = outputs_named variable [] c.outputs (map (written_input variable) c.inputs) all [] outs (omega arith) refl in
    let behind = subst (λ (t : List ℕ). AreNamed (lines_of t) (record { inputs = map (written_input variable) c.inputs; outputs = map (bare_output variable) c.outputs }) all) (append-nil (symbols_text 111 0 (output_names c.outputs))) last in
    inputs_named variable [] c.inputs (map (bare_output variable) c.outputs) all (symbols_text 111 0 (output_names c.outputs)) ins (omega arith) behind

counts_of_bare : (variable : ℕ → ℕ) (c : CircuitValue) (form : Form) → HasCounts (record { form = form; top = length c.inputs + length c.equations; inputs = length c.inputs; outputs = length c.outputs; gates = length c.equations }) (bare variable c)
counts_of_bare variable c form = record { inputs = length-map c.inputs (bare_input variable); outputs = length-map c.outputs (bare_output variable); gates = length-map c.equations (λ e. equation_of (gate_of variable e)) }

numbered : (variable : ℕ → ℕ) (a : ℕ) (ps : List InputPort) → ((k : ℕ) → k < length ps → variable (get_or (input_wires ps) k 0) ≡ (a + 1) + k) → map (bare_input variable) ps ≡ map (λ k. record { wire = record { 0 = k + 1 }; name = None }) (range_with_len a (length ps))
numbered variable a [] each = refl
numbered variable a (p ∷ ps) each =
    let made : ℕ → InputPort = λ w. record { wire = record { 0 = w }; name = None } in
    let first : (2 * variable p.wire.0) / 2 ≡ a + 1 = omega (arith, each 0 (omega arith)) in
    ap (λ (w : ℕ). made w ∷ map (bare_input variable) ps) first ∙ ap (λ (qs : List InputPort). made (a + 1) ∷ qs) (numbered variable (a + 1) ps (λ k low. omega (arith, each (suc k) (omega arith))))

-- ---- whole texts

word_text : (word body : List ℕ) (i o a : ℕ) → header_text word i o a ++ body ≡ (word ++ header_words i o a) ++ 10 ∷ body
word_text word body i o a = ap (λ (t : List ℕ). t ++ body) (header_text-line word i o a) ∙ append_assoc (word ++ header_words i o a) (10 ∷ []) body

ascii_spelled : (c : CircuitValue) → IsCircuit c → IsWritable c → HasNames (input_names c.inputs) → HasNames (output_names c.outputs) → Spells (ascii_text c) (written_by (variable_of c) c)
ascii_spelled c is ok ins outs =
    let v = variable_of c in
    let i : ℕ = length c.inputs in
    let o : ℕ = length c.outputs in
    let a : ℕ = length c.equations in
    let r2 : List ℕ = flat_map (λ e. gate_text (gate_of v e)) c.equations ++ names_text c in
    let r1 : List ℕ = flat_map (output_text v) c.outputs ++ r2 in
    let body : List ℕ = flat_map (input_text v) c.inputs ++ r1 in
    let line : List ℕ = codes "aag " ++ header_words i o a in
    let few = ok.few in
    let few_outputs = is.few_outputs in
    let text : AreText line = (lit≤ tt, (lit≤ tt, (lit≤ tt, (lit≤ tt, header_words-text i o a few few_outputs)))) in
    let grouped : ascii_text c ≡ header_text (codes "aag ") i o a ++ body = append_assoc (header_text (codes "aag ") i o a) (flat_map (input_text v) c.inputs ++ flat_map (output_text v) c.outputs) r2 ∙ ap (λ (t : List ℕ). header_text (codes "aag ") i o a ++ t) (append_assoc (flat_map (input_text v) c.inputs) (flat_map (output_text v) c.outputs) r2) in
    let whole : ascii_text c ≡ line ++ 10 ∷ body = grouped ∙ word_text (codes "aag ") body i o a in
    let h : Header = record { form = Ascii; top = i + a; inputs = i; outputs = o; gates = a } in
    let spelled : Spells (line ++ 10 ∷ body) (written_by v c) = record {
      header = h;
      bare = bare v c;
      rest = names_text c;
      some = some_text line body;
      header_is = ap header_line (first_line-text line body text) ∙ header_line-ascii i o a few few_outputs;
      counts = counts_of_bare v c Ascii;
      body = subst (λ (bytes : List ℕ). IsBody h bytes (bare v c) (names_text c)) (sym (after_line-text line body text)) (r1, r2, inputs_text c is ok r1, outputs_text c is ok r2, equations_text c is ok (names_text c));
      names = names_given c v ins outs (omega arith) few_outputs;
      equations = refl;
    } in
    subst (λ (bytes : List ℕ). Spells bytes (written_by v c)) (sym whole) spelled

binary_spelled : (c : CircuitValue) → IsCircuit c → IsWritable c → HasNames (input_names c.inputs) → HasNames (output_names c.outputs) → Spells (binary_text c) (written_by (variable_of c) c)
binary_spelled c is ok ins outs =
    let v = variable_of c in
    let i : ℕ = length c.inputs in
    let o : ℕ = length c.outputs in
    let a : ℕ = length c.equations in
    let r2 : List ℕ = flat_map (λ e. delta_text (gate_of v e)) c.equations ++ names_text c in
    let body : List ℕ = flat_map (output_text v) c.outputs ++ r2 in
    let line : List ℕ = codes "aig " ++ header_words i o a in
    let few = ok.few in
    let few_outputs = is.few_outputs in
    let text : AreText line = (lit≤ tt, (lit≤ tt, (lit≤ tt, (lit≤ tt, header_words-text i o a few few_outputs)))) in
    let whole : binary_text c ≡ line ++ 10 ∷ body = append_assoc (header_text (codes "aig ") i o a) (flat_map (output_text v) c.outputs) r2 ∙ word_text (codes "aig ") body i o a in
    let h : Header = record { form = Binary; top = i + a; inputs = i; outputs = o; gates = a } in
    let gates = gates_text v (i + 1) c.equations (names_text c) (omega arith) (λ k d low. gate_ok c is ok k d low) in
    let spelled : Spells (line ++ 10 ∷ body) (written_by v c) = record {
      header = h;
      bare = bare v c;
      rest = names_text c;
      some = some_text line body;
      header_is = ap header_line (first_line-text line body text) ∙ header_line-binary i o a few few_outputs;
      counts = counts_of_bare v c Binary;
      body = subst (λ (bytes : List ℕ). IsBody h bytes (bare v c) (names_text c)) (sym (after_line-text line body text)) (r2, numbered v 0 c.inputs (λ k low. omega (arith, input_variable c is k low)), outputs_text c is ok r2, gates);
      names = names_given c v ins outs (omega arith) few_outputs;
      equations = refl;
    } in
    subst (λ (bytes : List ℕ). Spells bytes (written_by v c)) (sym whole) spelled

-- ---- meanings

names_same : {A : Type 0} (name_of : A → Option (List ℕ)) (f : A → A) → ((p : A) → name_of (f p) ≡ name_of p) → (ps : List A) → map name_of (map f ps) ≡ map name_of ps
names_same name_of f same [] = refl
names_same name_of f same (p ∷ ps) = ap (λ (n : Option (List ℕ)). n ∷ map name_of (map f ps)) (same p) ∙ ap (λ (ns : List (Option (List ℕ))). name_of p ∷ ns) (names_same name_of f same ps)

means_same : (bytes : List ℕ) (c : CircuitValue) → IsCircuit c → IsWritable c → Spells bytes (written_by (variable_of c) c) → MeansSame bytes c
means_same bytes c is ok spelled = record {
  circuit = written_by (variable_of c) c;
  means = record { spelled = spelled; circuit = IsCircuit-written c is ok };
  shown = same_outputs c is ok;
  inputs_named = names_same (λ (p : InputPort). p.name) (written_input (variable_of c)) (λ p. refl) c.inputs;
  outputs_named = names_same (λ (p : OutputPort). p.name) (written_output (variable_of c)) (λ p. refl) c.outputs;
}

pub ascii_means : (c : CircuitValue) → IsCircuit c → IsWritable c → HasNames (input_names c.inputs) → HasNames (output_names c.outputs) → MeansSame (ascii_text c) c
ascii_means c is ok ins outs = means_same (ascii_text c) c is ok (ascii_spelled c is ok ins outs)

pub binary_means : (c : CircuitValue) → IsCircuit c → IsWritable c → HasNames (input_names c.inputs) → HasNames (output_names c.outputs) → MeansSame (binary_text c) c
binary_means c is ok ins outs = means_same (binary_text c) c is ok (binary_spelled c is ok ins outs)
