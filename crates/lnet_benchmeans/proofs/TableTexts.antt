-- The statements of a written text whose gates have tables are ordered.
use Rattle.std.proofs.Common.{◌≡◌, ℕ, Bool, true, cond, List, [], ◌∷◌, ◌++◌, map, Option, refl, sym, ap, subst}
use Rattle.std.specs.Prelude.{not, ◌&&◌, ◌==◌}
use Rattle.std.specs.List.{AllByRecursion}
use Rattle.lnet_edge.specs.declared.circuit.Rule.TheVariants.{And}
use Rattle.lnet_edge.specs.declared.circuit.WireRef.{WireRef}
use Rattle.lnet_edge.specs.Circuits.{CircuitValue, EquationValue}
use Rattle.lnet_edge.specs.Plain.{IsPlain}
use Rattle.lnet_edge.specs.Wires.{IsCircuit}
use Rattle.lnet_nodes.specs.Nodes.{label_of}
use Rattle.lnet_nodes.specs.Rows.{variables}
use Rattle.lnet_bench.specs.Statements.{StatementValue}
use Rattle.lnet_benchwriter.specs.Nodes.{is_turned, uses_of}
use Rattle.lnet_benchwriter.specs.Texts.{has_tables, shown_name}
use Rattle.lnet_benchtext.specs.Written.{HasNames, port_statements, table_statement, table_form_statements, word_form_statements, written_statements}
use Rattle.lnet_benchtext.proofs.Constants.{gnd_undriven, vdd_undriven}
use Rattle.lnet_benchmeans.specs.Driving.{HasWires, driven_names, IsUsable, IsOrderedBehind, shown_names, IsOrdered}
use Rattle.lnet_benchmeans.proofs.Once.{driven_once}
use Rattle.lnet_benchmeans.proofs.Shown.{outputs_usable}
use Rattle.lnet_benchmeans.proofs.TableForm.{tables_ordered}

tables_show : (label : ℕ → Option (List ℕ)) (es : List EquationValue) (P : List ℕ → Type 0) → AllByRecursion P (shown_names (map (table_statement label) es))
tables_show label [] P = tt
tables_show label (e ∷ es) P = by (variables e.operands) refl (tables_show label es P) where
  by : (vs : List WireRef) → variables e.operands ≡ vs → AllByRecursion P (shown_names (map (table_statement label) es)) → AllByRecursion P (shown_names (table_statement label e ∷ map (table_statement label) es))
  by [] is rest = rw is rest
  by (r ∷ rs) is rest = rw is rest

table_outputs : (c : CircuitValue) → AllByRecursion (IsUsable (driven_names (port_statements c ++ table_form_statements (label_of c) c))) (shown_names (port_statements c ++ table_form_statements (label_of c) c))
table_outputs c = outputs_usable c (map (table_statement (label_of c)) c.equations) (λ r. And (not (r.wire.0 == 0) && r.complement)) (λ r. shown_name (label_of c) r ∷ []) (tables_show (label_of c) c.equations)

pub tables_written : (c : CircuitValue) → has_tables c.equations ≡ true → written_statements c ≡ port_statements c ++ table_form_statements (label_of c) c
tables_written c tables = ap (λ (b : Bool). port_statements c ++ cond b (table_form_statements (label_of c) c) (word_form_statements (label_of c) (is_turned (uses_of c)) c)) tables

pub written_tables_ordered : (c : CircuitValue) → HasNames c → HasWires c → IsCircuit c → IsPlain c.equations → has_tables c.equations ≡ true → IsOrdered (written_statements c)
written_tables_ordered c has wires is plain tables =
    let same = sym (tables_written c tables) in
    record {
      once = driven_once c wires is;
      gnd = gnd_undriven c has;
      vdd = vdd_undriven c has;
      gates = subst (IsOrderedBehind []) same (tables_ordered c is plain);
      outputs = subst (λ (ss : List StatementValue). AllByRecursion (IsUsable (driven_names ss)) (shown_names ss)) same (table_outputs c);
    }
