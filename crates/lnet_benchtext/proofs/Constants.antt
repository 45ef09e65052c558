-- No statement of a written text drives a constant.
use Rattle.std.proofs.Common.{◌≡◌, ℕ, Bool, true, false, cond, List, [], ◌∷◌, ◌++◌, map, Option, codes, refl, sym, ap, ◌∙◌}
use Rattle.std.specs.Prelude.{not, ◌&&◌, ◌||◌, ◌==◌, slice_index, if◌then◌else◌}
use Rattle.std.specs.List.{list_all, flat_map, filter}
use Rattle.std.specs.Str.{bytes_eq}
use Rattle.std.proofs.lemmas.Bool.{false≢true}
use Rattle.std.proofs.lemmas.Slice.Eq.{bytes_eq-Decides}
use Rattle.lnet_edge.specs.declared.circuit.OutputPort.{OutputPort}
use Rattle.lnet_edge.specs.declared.circuit.WireRef.{WireRef}
use Rattle.lnet_edge.specs.Circuits.{CircuitValue, EquationValue}
use Rattle.lnet_edge.specs.Wires.{input_wires}
use Rattle.lnet_naming.specs.Settling.{is_text_byte, is_constant, is_made, is_plain, made_name, input_labels, output_labels}
use Rattle.lnet_nodes.specs.Nodes.{label_of}
use Rattle.lnet_nodes.specs.Rows.{variables}
use Rattle.lnet_bench.specs.Statements.{StatementValue, Input, Output}
use Rattle.lnet_bench.specs.Texts.{target_of, is_target, drives}
use Rattle.lnet_benchwriter.specs.Nodes.{is_turned, uses_of}
use Rattle.lnet_benchwriter.specs.Texts.{ascending, has_tables}
use Rattle.lnet_benchtext.specs.Written.{HasNames, port_statements, output_statements, complement_statement, input_complement_statements, word_statements, word_output_statement, word_form_statements, table_statement, table_output_statement, table_form_statements, form_statements, written_statements}
use Rattle.lnet_benchtext.proofs.Cutting.{both_true, true_both, all-append}
use Rattle.lnet_benchtext.proofs.Labels.{input_labels-suit, output_labels-suit}

-- the statement drives another name
abbrev spares : List ℕ → StatementValue → Bool
spares name s = not (is_target name (target_of s))

abbrev differs : List ℕ → List ℕ → Bool
differs name other = not (bytes_eq name other)

-- neither made nor kept names are this one
record IsFree (name : List ℕ) : Type 0 where
  made : (letter number : ℕ) → differs name (made_name letter number) ≡ true
  kept : (other : List ℕ) → is_plain other ≡ true → differs name other ≡ true

undriven : (name : List ℕ) (ss : List StatementValue) → list_all (spares name) ss ≡ true → drives ss name ≡ false
undriven name [] all = refl
undriven name (s ∷ ss) all =
    let t = both_true (spares name s) (list_all (spares name) ss) all in
    both_false (is_target name (target_of s)) (drives ss name) t.0 (undriven name ss t.1)
  where
    both_false : (a b : Bool) → not a ≡ true → b ≡ false → (a || b) ≡ false
    both_false true b first second = absurd (false≢true first)
    both_false false b first second = second

-- ---- lists of statements

all-map : {X Y : Type 0} (p : Y → Bool) (q : X → Bool) (f : X → Y) (xs : List X) → ((x : X) → q x ≡ true → p (f x) ≡ true) → list_all q xs ≡ true → list_all p (map f xs) ≡ true
all-map p q f [] each all = refl
all-map p q f (x ∷ xs) each all = let t = both_true (q x) (list_all q xs) all in true_both (p (f x)) (list_all p (map f xs)) (each x t.0) (all-map p q f xs each t.1)

each-map : {X Y : Type 0} (p : Y → Bool) (f : X → Y) (xs : List X) → ((x : X) → p (f x) ≡ true) → list_all p (map f xs) ≡ true
each-map p f [] each = refl
each-map p f (x ∷ xs) each = true_both (p (f x)) (list_all p (map f xs)) (each x) (each-map p f xs each)

each-flat_map : {X Y : Type 0} (p : Y → Bool) (f : X → List Y) (xs : List X) → ((x : X) → list_all p (f x) ≡ true) → list_all p (flat_map f xs) ≡ true
each-flat_map p f [] each = refl
each-flat_map p f (x ∷ xs) each = all-append p (f x) (flat_map f xs) (each x) (each-flat_map p f xs each)

ports_spare : (name : List ℕ) (c : CircuitValue) → IsFree name → HasNames c → list_all (spares name) (port_statements c) ≡ true
ports_spare name c free has =
    all-append (spares name) (map Input (input_labels c.inputs)) (map Output (output_labels c.inputs c.outputs))
    (all-map (spares name) (differs name) Input (input_labels c.inputs) (λ x t. t) (input_labels-suit (differs name) c (record { made = λ n. free.made 105 n; kept = λ other is plain. free.kept other plain }) has))
    (each-map (spares name) Output (output_labels c.inputs c.outputs) (λ x. refl))

outputs_spare : (name : List ℕ) (statement : List ℕ → WireRef → StatementValue) → ((target : List ℕ) (r : WireRef) → differs name target ≡ true → spares name (statement target r) ≡ true) → (names : List (List ℕ)) (ps : List OutputPort) → list_all (differs name) names ≡ true → list_all (spares name) (output_statements statement names ps) ≡ true
outputs_spare name statement each [] ps all = refl
outputs_spare name statement each (x ∷ xs) [] all = refl
outputs_spare name statement each (x ∷ xs) (p ∷ ps) all =
    let t = both_true (differs name x) (list_all (differs name) xs) all in
    true_both (spares name (statement x p.source)) (list_all (spares name) (output_statements statement xs ps)) (each x p.source t.0) (outputs_spare name statement each xs ps t.1)

labels_differ : (name : List ℕ) (c : CircuitValue) → IsFree name → HasNames c → list_all (differs name) (output_labels c.inputs c.outputs) ≡ true
labels_differ name c free has = output_labels-suit (differs name) c (record { made = λ n. free.made 111 n; kept = λ other is plain. free.kept other plain }) has

words_spare : (name : List ℕ) (label : ℕ → Option (List ℕ)) (turned : ℕ → Bool) (c : CircuitValue) → IsFree name → HasNames c → list_all (spares name) (word_form_statements label turned c) ≡ true
words_spare name label turned c free has =
    let names = output_labels c.inputs c.outputs in
    all-append (spares name) (input_complement_statements label turned c.inputs) (flat_map (word_statements label turned) c.equations ++ output_statements (word_output_statement label) names c.outputs)
    (each-map (spares name) (complement_statement label) (ascending (filter turned (input_wires c.inputs))) (λ n. free.made 99 n))
    (all-append (spares name) (flat_map (word_statements label turned) c.equations) (output_statements (word_output_statement label) names c.outputs)
    (each-flat_map (spares name) (word_statements label turned) c.equations gate)
    (outputs_spare name (word_output_statement label) (λ target r t. t) names c.outputs (labels_differ name c free has)))
  where
    gate : (e : EquationValue) → list_all (spares name) (word_statements label turned e) ≡ true
    gate e = true_both (differs name (made_name 110 e.target)) (list_all (spares name) (if turned e.target then complement_statement label e.target ∷ [] else [])) (free.made 110 e.target)
        (elim (turned e.target) as (λ b. list_all (spares name) (cond b (complement_statement label e.target ∷ []) []) ≡ true) [ true ↦ true_both (spares name (complement_statement label e.target)) true (free.made 99 e.target) refl | false ↦ refl ])

table_spares : (name : List ℕ) (label : ℕ → Option (List ℕ)) (e : EquationValue) → IsFree name → spares name (table_statement label e) ≡ true
table_spares name label e free = by (variables e.operands) refl where
  by : (vs : List WireRef) → variables e.operands ≡ vs → spares name (table_statement label e) ≡ true
  by [] is = rw is (free.made 110 e.target)
  by (r ∷ rs) is = rw is (free.made 110 e.target)

tables_spare : (name : List ℕ) (label : ℕ → Option (List ℕ)) (c : CircuitValue) → IsFree name → HasNames c → list_all (spares name) (table_form_statements label c) ≡ true
tables_spare name label c free has =
    let names = output_labels c.inputs c.outputs in
    all-append (spares name) (map (table_statement label) c.equations) (output_statements (table_output_statement label) names c.outputs)
    (each-map (spares name) (table_statement label) c.equations (λ e. table_spares name label e free))
    (outputs_spare name (table_output_statement label) (λ target r t. t) names c.outputs (labels_differ name c free has))

form_spares : (name : List ℕ) (label : ℕ → Option (List ℕ)) (c : CircuitValue) → IsFree name → HasNames c → list_all (spares name) (form_statements label c) ≡ true
form_spares name label c free has =
    elim (has_tables c.equations) as (λ b. list_all (spares name) (cond b (table_form_statements label c) (word_form_statements label (is_turned (uses_of c)) c)) ≡ true) [
      | true ↦ tables_spare name label c free has
      | false ↦ words_spare name label (is_turned (uses_of c)) c free has
    ]

written_spares : (name : List ℕ) (c : CircuitValue) → IsFree name → HasNames c → drives (written_statements c) name ≡ false
written_spares name c free has = undriven name (written_statements c) (all-append (spares name) (port_statements c) (form_statements (label_of c) c) (ports_spare name c free has) (form_spares name (label_of c) c free has))

-- ---- the constants

no_constant : (name : List ℕ) → is_plain name ≡ true → not (is_constant name) ≡ true
no_constant name plain =
    let first = both_true (list_all is_text_byte name && not (slice_index name 0 == 46) && not (is_constant name)) (not (is_made name)) plain in
    (both_true (list_all is_text_byte name && not (slice_index name 0 == 46)) (not (is_constant name)) first.0).1

-- a name that would be a constant isn't plain
plain_differs : (name : List ℕ) → is_constant name ≡ true → (other : List ℕ) → is_plain other ≡ true → differs name other ≡ true
plain_differs name constant other plain =
    elim (bytes_eq name other) as (λ b. bytes_eq name other ≡ b → not b ≡ true) [
      | true ↦ λ t. absurd (false≢true (sym (ap not (ap is_constant (sym ((bytes_eq-Decides name other).0 t)) ∙ constant)) ∙ no_constant other plain))
      | false ↦ λ t. refl
    ] refl

pub gnd_undriven : (c : CircuitValue) → HasNames c → drives (written_statements c) (codes "gnd") ≡ false
gnd_undriven c has = written_spares (codes "gnd") c (record { made = λ letter number. refl; kept = plain_differs (codes "gnd") refl }) has

pub vdd_undriven : (c : CircuitValue) → HasNames c → drives (written_statements c) (codes "vdd") ≡ false
vdd_undriven c has = written_spares (codes "vdd") c (record { made = λ letter number. refl; kept = plain_differs (codes "vdd") refl }) has
