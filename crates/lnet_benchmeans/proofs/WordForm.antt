-- The statements of a circuit whose gates have words use names that are driven before them.
use Rattle.std.proofs.Common.{◌≡◌, ℕ, Bool, true, List, [], ◌++◌, map, sym, subst, append_assoc, inl, inr}
use Rattle.std.specs.Prelude.{◌⊎◌, flat_map}
use Rattle.std.specs.List.{AllByRecursion, filter}
use Rattle.lnet_edge.specs.Circuits.{CircuitValue}
use Rattle.lnet_edge.specs.Plain.{IsPlain}
use Rattle.lnet_edge.specs.Wires.{input_wires, output_wires, targets, operand_wires, driven_wires, IsCircuit}
use Rattle.lnet_wires.specs.Naming.{is_seen}
use Rattle.lnet_naming.specs.Settling.{made_name, input_labels, output_labels}
use Rattle.lnet_nodes.specs.Nodes.{label_of, node_name}
use Rattle.lnet_bench.specs.Statements.{Input, Output}
use Rattle.lnet_benchwriter.specs.Nodes.{is_turned, output_uses, equation_uses, uses_of}
use Rattle.lnet_benchwriter.specs.Texts.{ascending}
use Rattle.lnet_benchtext.specs.Written.{port_statements, output_statements, word_statements, word_output_statement, word_form_statements}
use Rattle.lnet_benchmeans.specs.Driving.{IsOrderedBehind}
use Rattle.lnet_benchmeans.proofs.Differing.{all_weak, all_first, all_second, all_kept, all_ascending}
use Rattle.lnet_benchmeans.proofs.Plain.{IsOneOf, one_of_itself, used_one, plain_ahead}
use Rattle.lnet_benchmeans.proofs.Nodes.{input_named}
use Rattle.lnet_benchmeans.proofs.TableForm.{inputs_then, outputs_then, gates_named, shown_met}
use Rattle.lnet_benchmeans.proofs.Turned.{IsTurnedBy, all_turned, turned_seen}
use Rattle.lnet_benchmeans.proofs.Words.{complements_then, words_then, words_last}

-- inputs whose complement is used are inputs
chosen_inputs : (turned : ℕ → Bool) (ins : List ℕ) → AllByRecursion (IsOneOf ins) (ascending (filter turned ins))
chosen_inputs turned ins = all_ascending (IsOneOf ins) (filter turned ins) (all_kept (IsOneOf ins) turned ins (one_of_itself ins))

pub words_ordered : (c : CircuitValue) → IsCircuit c → IsPlain c.equations → IsOrderedBehind [] (port_statements c ++ word_form_statements (label_of c) (is_turned (uses_of c)) c)
words_ordered c is plain =
    let label = label_of c in
    let turned = is_turned (uses_of c) in
    let ins = input_wires c.inputs in
    let ts = targets c.equations in
    let names = output_labels c.inputs c.outputs in
    let gates = flat_map (word_statements label turned) c.equations in
    let outs = output_statements (word_output_statement label) names c.outputs in
    let form = word_form_statements label turned c in
    let uses = all_turned (uses_of c) in
    subst (IsOrderedBehind []) (sym (append_assoc (map Input (input_labels c.inputs)) (map Output names) form))
    (inputs_then (input_labels c.inputs) [] (map Output names ++ form) (λ known seen.
    outputs_then names known form
    (complements_then label (ascending (filter turned ins)) known (gates ++ outs)
    (all_weak (IsOneOf ins) (λ m. is_seen known (node_name label m) ≡ true) (ascending (filter turned ins)) (λ m one. seen (node_name label m) (inr (input_named c m one))) (chosen_inputs turned ins)) (λ more also.
    words_then label turned c.equations outs more (IsOneOf ins) (plain_ahead c is plain)
    (λ w one. also (node_name label w) (inl (seen (node_name label w) (inr (input_named c w one)))))
    (λ w one turn. also (made_name 99 w) (inr (turned_seen turned ins w one turn)))
    (gates_named c is)
    (all_second (IsTurnedBy turned) (output_uses c.outputs) (equation_uses c.equations) uses) (λ known' L later each others.
    words_last label turned L names c.outputs known' each others
    (all_weak (IsOneOf (driven_wires c)) (λ w. (w ≡ 0) ⊎ L w) (output_wires c.outputs) (shown_met L ins ts later)
    (all_first (IsOneOf (driven_wires c)) (output_wires c.outputs) (flat_map operand_wires c.equations) (used_one c is)))
    (all_first (IsTurnedBy turned) (output_uses c.outputs) (equation_uses c.equations) uses))))))
