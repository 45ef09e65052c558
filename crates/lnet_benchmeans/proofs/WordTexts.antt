-- The statements of a written text whose gates have words are ordered.
use Rattle.std.proofs.Common.{◌≡◌, ℕ, Bool, true, false, cond, List, [], ◌∷◌, ◌++◌, map, Option, sym, ap, subst, append_assoc, refl}
use Rattle.std.specs.List.{AllByRecursion, flat_map, filter}
use Rattle.lnet_edge.specs.declared.circuit.Rule.TheVariants.{And}
use Rattle.lnet_edge.specs.Circuits.{CircuitValue, EquationValue}
use Rattle.lnet_edge.specs.Plain.{IsPlain}
use Rattle.lnet_edge.specs.Wires.{input_wires, IsCircuit}
use Rattle.lnet_naming.specs.Settling.{output_labels}
use Rattle.lnet_nodes.specs.Nodes.{label_of}
use Rattle.lnet_bench.specs.Statements.{StatementValue}
use Rattle.lnet_benchwriter.specs.Nodes.{is_turned, uses_of, use_name}
use Rattle.lnet_benchwriter.specs.Texts.{ascending, has_tables}
use Rattle.lnet_benchtext.specs.Written.{HasNames, port_statements, complement_statement, input_complement_statements, word_statements, output_statements, word_output_statement, word_form_statements, table_form_statements, written_statements}
use Rattle.lnet_benchtext.proofs.Constants.{gnd_undriven, vdd_undriven}
use Rattle.lnet_benchmeans.specs.Driving.{HasWires, driven_names, IsUsable, IsOrderedBehind, shown_names, IsOrdered}
use Rattle.lnet_benchmeans.proofs.Once.{driven_once}
use Rattle.lnet_benchmeans.proofs.Shown.{shown_both, outputs_usable}
use Rattle.lnet_benchmeans.proofs.TableTexts.{written_tables_ordered}
use Rattle.lnet_benchmeans.proofs.WordForm.{words_ordered}

complements_show : (label : ℕ → Option (List ℕ)) (ms : List ℕ) (P : List ℕ → Type 0) → AllByRecursion P (shown_names (map (complement_statement label) ms))
complements_show label [] P = tt
complements_show label (m ∷ ms) P = complements_show label ms P

words_show : (label : ℕ → Option (List ℕ)) (turned : ℕ → Bool) (es : List EquationValue) (P : List ℕ → Type 0) → AllByRecursion P (shown_names (flat_map (word_statements label turned) es))
words_show label turned [] P = tt
words_show label turned (e ∷ es) P =
    shown_both P (word_statements label turned e) (flat_map (word_statements label turned) es)
    (elim (turned e.target) as (λ b. AllByRecursion P (shown_names (cond b (complement_statement label e.target ∷ []) []))) [ true ↦ tt | false ↦ tt ])
    (words_show label turned es P)

word_outputs : (c : CircuitValue) → AllByRecursion (IsUsable (driven_names (port_statements c ++ word_form_statements (label_of c) (is_turned (uses_of c)) c))) (shown_names (port_statements c ++ word_form_statements (label_of c) (is_turned (uses_of c)) c))
word_outputs c =
    let label = label_of c in
    let turned = is_turned (uses_of c) in
    let complements = input_complement_statements label turned c.inputs in
    let gates = flat_map (word_statements label turned) c.equations in
    let outs = output_statements (word_output_statement label) (output_labels c.inputs c.outputs) c.outputs in
    subst (λ (ss : List StatementValue). AllByRecursion (IsUsable (driven_names (port_statements c ++ ss))) (shown_names (port_statements c ++ ss))) (append_assoc complements gates outs)
    (outputs_usable c (complements ++ gates) (λ r. And false) (λ r. use_name label r ∷ [])
    (λ P. shown_both P complements gates (complements_show label (ascending (filter turned (input_wires c.inputs))) P) (words_show label turned c.equations P)))

pub words_written : (c : CircuitValue) → has_tables c.equations ≡ false → written_statements c ≡ port_statements c ++ word_form_statements (label_of c) (is_turned (uses_of c)) c
words_written c words = ap (λ (b : Bool). port_statements c ++ cond b (table_form_statements (label_of c) c) (word_form_statements (label_of c) (is_turned (uses_of c)) c)) words

pub written_words_ordered : (c : CircuitValue) → HasNames c → HasWires c → IsCircuit c → IsPlain c.equations → has_tables c.equations ≡ false → IsOrdered (written_statements c)
written_words_ordered c has wires is plain words =
    let same = sym (words_written c words) in
    record {
      once = driven_once c wires is;
      gnd = gnd_undriven c has;
      vdd = vdd_undriven c has;
      gates = subst (IsOrderedBehind []) same (words_ordered c is plain);
      outputs = subst (λ (ss : List StatementValue). AllByRecursion (IsUsable (driven_names ss)) (shown_names ss)) same (word_outputs c);
    }

-- the statements of a written text are ordered, whatever its form
pub written_ordered : (c : CircuitValue) → HasNames c → HasWires c → IsCircuit c → IsPlain c.equations → IsOrdered (written_statements c)
written_ordered c has wires is plain = by (has_tables c.equations) refl where
  by : (b : Bool) → has_tables c.equations ≡ b → IsOrdered (written_statements c)
  by true tables = written_tables_ordered c has wires is plain tables
  by false words = written_words_ordered c has wires is plain words
