-- The outputs of a circuit whose gates have words, by the statements of its text.
use Rattle.std.proofs.Common.{◌≡◌, ℕ, Bool, true, false, cond, List, [], ◌∷◌, ◌++◌, map, Option, refl, ◌∙◌}
use Rattle.std.specs.Prelude.{◌⊎◌}
use Rattle.std.specs.List.{AllByRecursion, flat_map, filter}
use Rattle.lnet_edge.specs.declared.circuit.OutputPort.{OutputPort}
use Rattle.lnet_edge.specs.declared.circuit.Rule.TheVariants.{And}
use Rattle.lnet_edge.specs.declared.circuit.WireRef.{WireRef}
use Rattle.lnet_edge.specs.Circuits.{CircuitValue, EquationValue, AllFrom}
use Rattle.lnet_edge.specs.Plain.{IsPlain}
use Rattle.lnet_edge.specs.Values.{under_rule, value_of, ref_value}
use Rattle.lnet_edge.specs.Wires.{input_wires, output_wires, IsCircuit}
use Rattle.lnet_edge.proofs.ValueLemmas.{value-constant}
use Rattle.lnet_naming.specs.Settling.{input_labels, output_labels}
use Rattle.lnet_nodes.specs.Nodes.{label_of}
use Rattle.lnet_benchwriter.specs.Nodes.{constant_name, use_name, is_turned, output_uses, equation_uses, uses_of}
use Rattle.lnet_benchwriter.specs.Texts.{ascending}
use Rattle.lnet_benchtext.specs.Written.{complement_statement, input_complement_statements, word_statements, output_statements, word_output_statement, word_form_statements}
use Rattle.lnet_benchmeans.proofs.Differing.{all_first, all_second}
use Rattle.lnet_benchmeans.proofs.Plain.{IsOneOf, plain_ahead}
use Rattle.lnet_benchmeans.proofs.Shown.{as_many_outputs}
use Rattle.lnet_benchmeans.proofs.TableForm.{gates_named}
use Rattle.lnet_benchmeans.proofs.Turned.{IsTurnedBy, all_turned, turned_one}
use Rattle.lnet_benchvalues.specs.Named.{Holds}
use Rattle.lnet_benchvalues.proofs.NameValues.{equations_hold}
use Rattle.lnet_benchvalues.proofs.Known.{inputs_known}
use Rattle.lnet_benchvalues.proofs.TableValues.{and_true}
use Rattle.lnet_benchvalues.proofs.WordValues.{AreOpposed, use_value, complements_hold, IsKnownGate, words_known}
use Rattle.lnet_benchvalues.proofs.Outputs.{HasNoPorts, none_then, outputs_none, outputs_by_form}
use Rattle.lnet_benchvalues.proofs.TableOutputs.{outputs_met}

-- what holds of each output by its wire and by its use
each_use : (U : ℕ → Type 0) (T : WireRef → Type 0) (Q : OutputPort → Type 0) → ((p : OutputPort) → U p.source.wire.0 → T p.source → Q p) → (ps : List OutputPort) → AllByRecursion U (output_wires ps) → AllByRecursion T (output_uses ps) → AllByRecursion Q ps
each_use U T Q each [] all uses = tt
each_use U T Q each (p ∷ ps) all uses = (each p all.0 uses.0, each_use U T Q each ps all.1 uses.1)

pub word_form_outputs : (c : CircuitValue) (a : ℕ → Bool) (v : List ℕ → Bool) → IsCircuit c → IsPlain c.equations → ((value : Bool) → v (constant_name value) ≡ value) → AllFrom (λ k x. v x ≡ a k) 0 (input_labels c.inputs) → AllByRecursion (Holds v) (word_form_statements (label_of c) (is_turned (uses_of c)) c) → map v (output_labels c.inputs c.outputs) ≡ map (λ (p : OutputPort). ref_value c a p.source) c.outputs
word_form_outputs c a v is plain constants ports holds =
    let label = label_of c in
    let turned = is_turned (uses_of c) in
    let V = value_of c a in
    let none = value-constant c a is in
    let wires = input_wires c.inputs in
    let names = output_labels c.inputs c.outputs in
    let complements = input_complement_statements label turned c.inputs in
    let gates = flat_map (word_statements label turned) c.equations in
    let outs = output_statements (word_output_statement label) names c.outputs in
    let uses = all_turned (uses_of c) in
    let behind = all_second (Holds v) complements (gates ++ outs) holds in
    let ins = inputs_known c a v is ports in
    let others : AreOpposed v V turned (IsOneOf wires) = λ w one turn. complements_hold v V label (ascending (filter turned wires)) (all_first (Holds v) complements (gates ++ outs) holds) w (turned_one turned wires w one turn) (ins w one) in
    let known = words_known v V label turned none constants c.equations (IsOneOf wires) (plain_ahead c is plain) ins others (gates_named c is) (all_second (IsTurnedBy turned) (output_uses c.outputs) (equation_uses c.equations) uses) (equations_hold c a is) (all_first (Holds v) gates outs behind) in
    let L = IsKnownGate v V label turned in
    let met = outputs_met c L is (λ w one. (ins w one, others w one)) known in
    outputs_by_form v (λ r. And false) (λ r. use_name label r ∷ []) (ref_value c a) names c.outputs (as_many_outputs c)
    (each_use (λ w. (w ≡ 0) ⊎ L w) (IsTurnedBy turned) (λ (p : OutputPort). under_rule (And false) (map v (use_name label p.source ∷ [])) ≡ ref_value c a p.source)
    (λ p used is_turned. and_true (v (use_name label p.source)) ∙ use_value v V label turned L none constants (λ w k. k.0) (λ w k. k.1) p.source used is_turned)
    c.outputs met (all_first (IsTurnedBy turned) (output_uses c.outputs) (equation_uses c.equations) uses))
    (all_second (Holds v) gates outs behind)

-- ---- no ports

complements_none : (label : ℕ → Option (List ℕ)) (ms : List ℕ) → HasNoPorts (map (complement_statement label) ms)
complements_none label [] = (refl, refl)
complements_none label (m ∷ ms) = complements_none label ms

words_none : (label : ℕ → Option (List ℕ)) (turned : ℕ → Bool) (es : List EquationValue) → HasNoPorts (flat_map (word_statements label turned) es)
words_none label turned [] = (refl, refl)
words_none label turned (e ∷ es) =
    none_then (word_statements label turned e) (flat_map (word_statements label turned) es)
    (elim (turned e.target) as (λ b. HasNoPorts (cond b (complement_statement label e.target ∷ []) [])) [ true ↦ (refl, refl) | false ↦ (refl, refl) ])
    (words_none label turned es)

pub word_form_none : (c : CircuitValue) → HasNoPorts (word_form_statements (label_of c) (is_turned (uses_of c)) c)
word_form_none c =
    let label = label_of c in
    let turned = is_turned (uses_of c) in
    let names = output_labels c.inputs c.outputs in
    let gates = flat_map (word_statements label turned) c.equations in
    let outs = output_statements (word_output_statement label) names c.outputs in
    none_then (input_complement_statements label turned c.inputs) (gates ++ outs) (complements_none label (ascending (filter turned (input_wires c.inputs))))
    (none_then gates outs (words_none label turned c.equations) (outputs_none (λ r. And false) (λ r. use_name label r ∷ []) names c.outputs))
