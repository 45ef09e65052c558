-- A text has a byte or more for each of its names.
use Rattle.std.proofs.Common.{◌≡◌, ℕ, ◌≤◌, Bool, true, false, cond, eqb, List, [], ◌∷◌, ◌++◌, length, Option, codes, arith, length-append}
use Rattle.std.specs.Prelude.{if◌then◌else◌}
use Rattle.std.specs.List.{flat_map}
use Rattle.lnet_edge.specs.declared.circuit.OutputPort.{OutputPort}
use Rattle.lnet_edge.specs.declared.circuit.WireRef.{WireRef}
use Rattle.lnet_edge.specs.Circuits.{CircuitValue, EquationValue}
use Rattle.lnet_edge.specs.Outside.{file_limit}
use Rattle.lnet_naming.specs.Settling.{input_labels, output_labels}
use Rattle.lnet_nodes.specs.Nodes.{label_of, node_name}
use Rattle.lnet_blifwriter.specs.Texts.{spaced, words_line, gate_text, output_text, outputs_text, ports_text, covers_text, blif_text}
use Rattle.lnet_blifmeans.specs.Driving.{HasRoom}
use Rattle.lnet_blifmeans.proofs.Once.{count_inputs, count_outputs}

names_long : (names : List (List ℕ)) → length names ≤ length (flat_map spaced names)
names_long [] = omega arith
names_long (x ∷ xs) = let later = names_long xs in let both = length-append (spaced x) (flat_map spaced xs) in omega arith

gates_long : (label : ℕ → Option (List ℕ)) (es : List EquationValue) → length es ≤ length (flat_map (gate_text label) es)
gates_long label [] = omega arith
gates_long label (e ∷ es) = let later = gates_long label es in let both = length-append (gate_text label e) (flat_map (gate_text label) es) in omega arith

output_long : (label : ℕ → Option (List ℕ)) (name : List ℕ) (r : WireRef) → 1 ≤ length (output_text label name r)
output_long label name r = by (eqb r.wire.0 0) where
  by : (b : Bool) → 1 ≤ length (cond b (codes ".names " ++ (name ++ (if r.complement then codes "\n1\n" else codes "\n"))) (codes ".names " ++ (node_name label r.wire.0 ++ (32 ∷ (name ++ (if r.complement then codes "\n0 1\n" else codes "\n1 1\n"))))))
  by true = omega arith
  by false = omega arith

outputs_long : (label : ℕ → Option (List ℕ)) (names : List (List ℕ)) (ps : List OutputPort) → length names ≡ length ps → length ps ≤ length (outputs_text label names ps)
outputs_long label [] [] same = omega arith
outputs_long label [] (p ∷ ps) same = absurd cc
outputs_long label (name ∷ names) [] same = omega arith
outputs_long label (name ∷ names) (p ∷ ps) same =
    let first = output_long label name p.source in
    let later = outputs_long label names ps (omega arith) in
    let both = length-append (output_text label name p.source) (outputs_text label names ps) in
    omega arith

-- a text in a file has room
pub file_room : (c : CircuitValue) → length (blif_text c) ≤ file_limit → HasRoom c
file_room c short =
    let ins = input_labels c.inputs in
    let outs = output_labels c.inputs c.outputs in
    let label = label_of c in
    let inputs = words_line (codes ".inputs") ins in
    let outputs = words_line (codes ".outputs") outs in
    let gates = flat_map (gate_text label) c.equations in
    let shown = outputs_text label outs c.outputs in
    let m = count_inputs c in
    let n = count_outputs c in
    let a = names_long ins in
    let b = gates_long label c.equations in
    let d = outputs_long label outs c.outputs n in
    let e = length-append (codes ".inputs") (flat_map spaced ins ++ 10 ∷ []) in
    let f = length-append (flat_map spaced ins) (10 ∷ []) in
    let g = length-append inputs outputs in
    let h = length-append (ports_text c) (covers_text label c) in
    let i = length-append gates (shown ++ codes ".end\n") in
    let j = length-append shown (codes ".end\n") in
    let k = length-append (codes ".model lognet\n") (inputs ++ outputs) in
    omega arith
