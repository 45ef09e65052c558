-- What a written text means.
use Rattle.std.proofs.Common.{◌≡◌, ℕ, suc, pred, ◌+◌, List, [], ◌∷◌, length, map, Option, refl, sym, ap, subst, arith, length-append}
use Rattle.std.proofs.lemmas.List.{length-map}
use Rattle.lnet_edge.specs.declared.circuit.OutputPort.{OutputPort}
use Rattle.lnet_edge.specs.Circuits.{CircuitValue}
use Rattle.lnet_edge.specs.Plain.{IsPlain}
use Rattle.lnet_edge.specs.Wires.{IsCircuit}
use Rattle.lnet_naming.specs.Settling.{input_labels, output_labels}
use Rattle.lnet_nodes.specs.Nodes.{label_of}
use Rattle.lnet_blif.specs.Texts.{names_of, circuit_of}
use Rattle.lnet_blif.specs.Meanings.{Means}
use Rattle.lnet_blifwriter.specs.Texts.{blif_text}
use Rattle.lnet_benchtext.specs.Written.{HasNames}
use Rattle.lnet_benchmeans.specs.Driving.{HasWires}
use Rattle.lnet_bliftext.specs.Written.{gate_cover, output_covers, written_covers, written_statements}
use Rattle.lnet_bliftext.proofs.Reading.{written-read}
use Rattle.lnet_blifmeans.specs.Driving.{HasRoom}
use Rattle.lnet_blifmeans.proofs.Shape.{shaped, shape}
use Rattle.lnet_blifmeans.proofs.Once.{count_inputs, count_outputs}
use Rattle.lnet_blifmeans.proofs.Rules.{keeps_rules}
use Rattle.lnet_blifmeans.proofs.Ordered.{written_orderly}

-- the circuit of the text, port by port and cover by cover
abbrev pub written_circuit : CircuitValue → CircuitValue
written_circuit c = shaped (names_of (written_statements c)) (input_labels c.inputs) (output_labels c.inputs c.outputs) (written_covers c)

pub circuit_is : (c : CircuitValue) → circuit_of (written_statements c) ≡ written_circuit c
circuit_is c = shape (names_of (written_statements c)) (input_labels c.inputs) (output_labels c.inputs c.outputs) (written_covers c)

count_shown : (label : ℕ → Option (List ℕ)) (names : List (List ℕ)) (ps : List OutputPort) → length names ≡ length ps → length (output_covers label names ps) ≡ length ps
count_shown label [] [] same = refl
count_shown label [] (p ∷ ps) same = absurd cc
count_shown label (name ∷ names) [] same = absurd cc
count_shown label (name ∷ names) (p ∷ ps) same = ap suc (count_shown label names ps (ap pred same))

count_covers : (c : CircuitValue) → length (written_covers c) ≡ length c.equations + length c.outputs
count_covers c =
    let gates = length-map c.equations (gate_cover (label_of c)) in
    let outs = count_shown (label_of c) (output_labels c.inputs c.outputs) c.outputs (count_outputs c) in
    let both = length-append (map (gate_cover (label_of c)) c.equations) (output_covers (label_of c) (output_labels c.inputs c.outputs) c.outputs) in
    omega arith

pub written_rules : (c : CircuitValue) → HasWires c → IsCircuit c → IsPlain c.equations → HasRoom c → IsCircuit (written_circuit c)
written_rules c wires is plain few =
    let ins = count_inputs c in
    let outs = count_outputs c in
    let ks = count_covers c in
    let few_outputs = is.few_outputs in
    keeps_rules (names_of (written_statements c)) (input_labels c.inputs) (output_labels c.inputs c.outputs) (written_covers c) (written_orderly c wires is plain) (omega arith) (omega arith)

pub written_means : (c : CircuitValue) → HasNames c → HasWires c → IsCircuit c → IsPlain c.equations → HasRoom c → Means (blif_text c) (circuit_of (written_statements c))
written_means c has wires is plain few = record {
  statements = written_statements c;
  read = written-read c has;
  is = refl;
  rules = subst IsCircuit (sym (circuit_is c)) (written_rules c wires is plain few);
}
