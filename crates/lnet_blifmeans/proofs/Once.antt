-- No name is driven twice.
use Rattle.std.proofs.Common.{◌≡◌, ◌≢◌, ℕ, pred, ◌+◌, Bool, true, false, cond, eqb, List, [], ◌∷◌, ◌++◌, length, map, Option, refl, sym, ap, subst, ◌∙◌, arith}
use Rattle.std.specs.List.{AllByRecursion, IsDistinct, flat_map}
use Rattle.std.specs.Str.{bytes_eq}
use Rattle.std.proofs.lemmas.List.{map-append}
use Rattle.lnet_edge.specs.declared.circuit.OutputPort.{OutputPort}
use Rattle.lnet_edge.specs.declared.circuit.WireRef.{WireRef}
use Rattle.lnet_edge.specs.Circuits.{CircuitValue, EquationValue}
use Rattle.lnet_edge.specs.Wires.{input_wires, targets, IsCircuit}
use Rattle.lnet_naming.specs.Settling.{made_name, settle_all, input_labels, output_labels}
use Rattle.lnet_edge.specs.Shown.{input_names, output_names}
use Rattle.lnet_nodes.specs.Nodes.{label_of, node_name}
use Rattle.lnet_benchmeans.specs.Driving.{HasWires}
use Rattle.lnet_benchmeans.proofs.Differing.{Differ, all_both, all_weak, all_second, differ_both, differ_second, apart_by, distinct_names}
use Rattle.lnet_benchmeans.proofs.Settled.{IsLabel}
use Rattle.lnet_benchmeans.proofs.Middle.{IsSmall, IsNodeName, IsPortLetter, label_node, gate_names, IsMiddle, gates_middle}
use Rattle.lnet_benchmeans.proofs.Nodes.{length_labels}
use Rattle.lnet_benchmeans.proofs.Once.{length-input_names, length-output_names, kept_of, inputs_run, outputs_run, ports_apart, wires_differ, wires_small}
use Rattle.lnet_bliftext.specs.Written.{CoverLines, gate_cover, output_cover, output_covers, written_covers, written_statements}
use Rattle.lnet_blifmeans.specs.Driving.{driven_names}
use Rattle.lnet_blifmeans.proofs.Shape.{cover_targets, driven_are}

-- names of inputs, of nodes, and of outputs
labels_differ : (c : CircuitValue) → IsCircuit c → (names : List (List ℕ)) → IsMiddle names → Differ (input_labels c.inputs ++ (names ++ output_labels c.inputs c.outputs))
labels_differ c is names middle =
    let first = inputs_run c is in
    let last = outputs_run c is in
    let ins = input_labels c.inputs in
    let outs = output_labels c.inputs c.outputs in
    let is_in = IsLabel 105 0 (0 + length (input_names c.inputs)) (kept_of c) true in
    let is_out = IsLabel 111 0 (0 + length (output_names c.outputs)) (kept_of c) false in
    let port_in : IsPortLetter 105 = ((λ h. omega arith), (λ h. omega arith)) in
    let port_out : IsPortLetter 111 = ((λ h. omega arith), (λ h. omega arith)) in
    let m = length-input_names c.inputs in
    let n = length-output_names c.outputs in
    let few = is.few in
    let few_outputs = is.few_outputs in
    differ_both ins (names ++ outs) first.differ
    (differ_both names outs middle.differ last.differ
    (apart_by (IsNodeName IsSmall) is_out names outs (λ x y p q e. label_node 111 0 (0 + length (output_names c.outputs)) (kept_of c) false port_out y x q p (sym e)) middle.nodes last.fresh))
    (all_weak is_in (λ x. AllByRecursion (λ y. x ≢ y) (names ++ outs)) ins
    (λ x p. all_both (λ y. x ≢ y) names outs
    (all_weak (IsNodeName IsSmall) (λ y. x ≢ y) names (λ y q. label_node 105 0 (0 + length (input_names c.inputs)) (kept_of c) true port_in x y p q) middle.nodes)
    (all_weak is_out (λ y. x ≢ y) outs (λ y q. ports_apart (0 + length (input_names c.inputs)) (0 + length (output_names c.outputs)) (kept_of c) (omega arith) (omega arith) x y p q) last.fresh))
    first.stand)

-- ---- the targets of covers

gates_drive : (label : ℕ → Option (List ℕ)) (es : List EquationValue) → cover_targets (map (gate_cover label) es) ≡ flat_map (gate_names (λ n. false)) (targets es)
gates_drive label [] = refl
gates_drive label (e ∷ es) = ap (λ (xs : List (List ℕ)). made_name 110 e.target ∷ xs) (gates_drive label es)

output_drives : (label : ℕ → Option (List ℕ)) (name : List ℕ) (r : WireRef) → (output_cover label name r).target ≡ name
output_drives label name r = elim (eqb r.wire.0 0) as (λ b. (cond b (constant r.complement) (shown r.complement)).target ≡ name) [ true ↦ refl | false ↦ refl ] where
  constant : Bool → CoverLines
  constant complement = record { operands = []; target = name; rows = cond complement ([] ∷ []) [] }

  shown : Bool → CoverLines
  shown complement = record { operands = node_name label r.wire.0 ∷ []; target = name; rows = cond complement (48 ∷ []) (49 ∷ []) ∷ [] }

outputs_drive : (label : ℕ → Option (List ℕ)) (names : List (List ℕ)) (ps : List OutputPort) → length names ≡ length ps → cover_targets (output_covers label names ps) ≡ names
outputs_drive label [] [] same = refl
outputs_drive label [] (p ∷ ps) same = refl
outputs_drive label (name ∷ names) [] same = absurd cc
outputs_drive label (name ∷ names) (p ∷ ps) same =
    ap (λ (x : List ℕ). x ∷ cover_targets (output_covers label names ps)) (output_drives label name p.source) ∙ ap (λ (xs : List (List ℕ)). name ∷ xs) (outputs_drive label names ps (ap pred same))

-- there is a name for each output
pub count_outputs : (c : CircuitValue) → length (output_labels c.inputs c.outputs) ≡ length c.outputs
count_outputs c = length_labels 111 0 (settle_all 105 0 [] (input_names c.inputs)).1 (output_names c.outputs) ∙ length-output_names c.outputs

pub count_inputs : (c : CircuitValue) → length (input_labels c.inputs) ≡ length c.inputs
count_inputs c = length_labels 105 0 [] (input_names c.inputs) ∙ length-input_names c.inputs

pub targets_are : (c : CircuitValue) → cover_targets (written_covers c) ≡ flat_map (gate_names (λ n. false)) (targets c.equations) ++ output_labels c.inputs c.outputs
targets_are c =
    let outs = output_covers (label_of c) (output_labels c.inputs c.outputs) c.outputs in
    map-append (λ (k : CoverLines). k.target) (map (gate_cover (label_of c)) c.equations) outs
    ∙ ap (λ (xs : List (List ℕ)). xs ++ cover_targets (output_covers (label_of c) (output_labels c.inputs c.outputs) c.outputs)) (gates_drive (label_of c) c.equations)
    ∙ ap (λ (xs : List (List ℕ)). flat_map (gate_names (λ n. false)) (targets c.equations) ++ xs) (outputs_drive (label_of c) (output_labels c.inputs c.outputs) c.outputs (count_outputs c))

-- ---- all together

pub names_differ : (c : CircuitValue) → HasWires c → IsCircuit c → Differ (input_labels c.inputs ++ cover_targets (written_covers c))
names_differ c wires is =
    let ins = input_wires c.inputs in
    let ts = targets c.equations in
    let middle = gates_middle (λ n. false) ts (all_second IsSmall ins ts (wires_small c wires)) (differ_second ins ts (wires_differ c is)) in
    subst (λ (xs : List (List ℕ)). Differ (input_labels c.inputs ++ xs)) (sym (targets_are c)) (labels_differ c is (flat_map (gate_names (λ n. false)) ts) middle)

pub driven_once : (c : CircuitValue) → HasWires c → IsCircuit c → IsDistinct bytes_eq (driven_names (written_statements c))
driven_once c wires is =
    subst (IsDistinct bytes_eq) (sym (driven_are (input_labels c.inputs) (output_labels c.inputs c.outputs) (written_covers c))) (distinct_names (input_labels c.inputs ++ cover_targets (written_covers c)) (names_differ c wires is))
