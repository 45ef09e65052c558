-- The outputs of a circuit whose gates have tables, by the statements of its text.
use Rattle.std.proofs.Common.{◌≡◌, ℕ, Bool, List, [], ◌∷◌, map, Option, refl, inl, inr}
use Rattle.std.specs.Prelude.{◌⊎◌, ◌&&◌, not, ◌==◌, flat_map}
use Rattle.std.specs.List.{AllByRecursion}
use Rattle.lnet_edge.specs.declared.circuit.OutputPort.{OutputPort}
use Rattle.lnet_edge.specs.declared.circuit.Rule.TheVariants.{And}
use Rattle.lnet_edge.specs.declared.circuit.WireRef.{WireRef}
use Rattle.lnet_edge.specs.Circuits.{CircuitValue, EquationValue, AllFrom}
use Rattle.lnet_edge.specs.Plain.{IsPlain}
use Rattle.lnet_edge.specs.Values.{under_rule, value_of, ref_value}
use Rattle.lnet_edge.specs.Wires.{input_wires, output_wires, targets, operand_wires, driven_wires, IsCircuit}
use Rattle.lnet_edge.proofs.ValueLemmas.{value-constant}
use Rattle.lnet_naming.specs.Settling.{input_labels, output_labels}
use Rattle.lnet_nodes.specs.Nodes.{label_of, node_name}
use Rattle.lnet_nodes.specs.Rows.{variables}
use Rattle.lnet_benchwriter.specs.Nodes.{constant_name}
use Rattle.lnet_benchwriter.specs.Texts.{shown_name}
use Rattle.lnet_benchtext.specs.Written.{output_statements, table_statement, table_output_statement, table_form_statements}
use Rattle.lnet_benchmeans.proofs.Differing.{all_weak, all_first, all_second}
use Rattle.lnet_benchmeans.proofs.Plain.{IsOneOf, used_one, plain_ahead}
use Rattle.lnet_benchmeans.proofs.Shown.{as_many_outputs}
use Rattle.lnet_benchmeans.proofs.TableForm.{gates_named, shown_met}
use Rattle.lnet_benchvalues.specs.Named.{Holds}
use Rattle.lnet_benchvalues.proofs.NameValues.{equations_hold}
use Rattle.lnet_benchvalues.proofs.Known.{one_holds, inputs_known}
use Rattle.lnet_benchvalues.proofs.TableValues.{tables_known, shown_value}
use Rattle.lnet_benchvalues.proofs.Outputs.{HasNoPorts, none_then, outputs_none, outputs_by_form}

-- what holds of the wire of each output
each_output : (U : ℕ → Type 0) (Q : OutputPort → Type 0) → ((p : OutputPort) → U p.source.wire.0 → Q p) → (ps : List OutputPort) → AllByRecursion U (output_wires ps) → AllByRecursion Q ps
each_output U Q each [] all = tt
each_output U Q each (p ∷ ps) all = (each p all.0, each_output U Q each ps all.1)

-- a wire that an output shows is wire 0, an input or a gate
pub outputs_met : (c : CircuitValue) (L : ℕ → Type 0) → IsCircuit c → ((w : ℕ) → IsOneOf (input_wires c.inputs) w → L w) → AllByRecursion L (targets c.equations) → AllByRecursion (λ w. (w ≡ 0) ⊎ L w) (output_wires c.outputs)
outputs_met c L is ins gates =
    all_weak (IsOneOf (driven_wires c)) (λ w. (w ≡ 0) ⊎ L w) (output_wires c.outputs) (shown_met L (input_wires c.inputs) (targets c.equations) both)
    (all_first (IsOneOf (driven_wires c)) (output_wires c.outputs) (flat_map operand_wires c.equations) (used_one c is))
  where
    both : (w : ℕ) → (IsOneOf (input_wires c.inputs) w ⊎ IsOneOf (targets c.equations) w) → L w
    both w (inl one) = ins w one
    both w (inr one) = one_holds L (targets c.equations) gates w one

pub table_form_outputs : (c : CircuitValue) (a : ℕ → Bool) (v : List ℕ → Bool) → IsCircuit c → IsPlain c.equations → ((value : Bool) → v (constant_name value) ≡ value) → AllFrom (λ k x. v x ≡ a k) 0 (input_labels c.inputs) → AllByRecursion (Holds v) (table_form_statements (label_of c) c) → map v (output_labels c.inputs c.outputs) ≡ map (λ (p : OutputPort). ref_value c a p.source) c.outputs
table_form_outputs c a v is plain constants ports holds =
    let label = label_of c in
    let V = value_of c a in
    let none = value-constant c a is in
    let names = output_labels c.inputs c.outputs in
    let gates = map (table_statement label) c.equations in
    let outs = output_statements (table_output_statement label) names c.outputs in
    let ins = inputs_known c a v is ports in
    let L : ℕ → Type 0 = λ w. v (node_name label w) ≡ V w in
    let known = tables_known v V label none c.equations (IsOneOf (input_wires c.inputs)) (plain_ahead c is plain) ins (gates_named c is) (equations_hold c a is) (all_first (Holds v) gates outs holds) in
    let rule = λ (r : WireRef). And (not (r.wire.0 == 0) && r.complement) in
    let operands = λ (r : WireRef). shown_name label r ∷ [] in
    outputs_by_form v rule operands (ref_value c a) names c.outputs (as_many_outputs c)
    (each_output (λ w. (w ≡ 0) ⊎ L w) (λ (p : OutputPort). under_rule (rule p.source) (map v (operands p.source)) ≡ ref_value c a p.source) (λ p met. shown_value v V label L none constants (λ w is. is) p.source met) c.outputs (outputs_met c L is ins known))
    (all_second (Holds v) gates outs holds)

-- ---- no ports

tables_none : (label : ℕ → Option (List ℕ)) (es : List EquationValue) → HasNoPorts (map (table_statement label) es)
tables_none label [] = (refl, refl)
tables_none label (e ∷ es) = by (variables e.operands) refl (tables_none label es) where
  by : (vs : List WireRef) → variables e.operands ≡ vs → HasNoPorts (map (table_statement label) es) → HasNoPorts (table_statement label e ∷ map (table_statement label) es)
  by [] is rest = rw is rest
  by (r ∷ rs) is rest = rw is rest

pub table_form_none : (c : CircuitValue) → HasNoPorts (table_form_statements (label_of c) c)
table_form_none c =
    let label = label_of c in
    let names = output_labels c.inputs c.outputs in
    none_then (map (table_statement label) c.equations) (output_statements (table_output_statement label) names c.outputs) (tables_none label c.equations)
    (outputs_none (λ r. And (not (r.wire.0 == 0) && r.complement)) (λ r. shown_name label r ∷ []) names c.outputs)
