-- What is read of a written text: its circuit alone, with the ports and outputs of the circuit that was written.
use Rattle.std.proofs.Common.{◌≡◌, ℕ, Bool, List, [], ◌∷◌, length, map, Option, Some, Result, Ok, refl, sym, ap, subst, ◌∙◌}
use Rattle.std.proofs.lemmas.List.{length-map}
use Rattle.lnet_edge.specs.declared.fault.Malformed.{Malformed}
use Rattle.lnet_edge.specs.Circuits.{CircuitValue}
use Rattle.lnet_edge.specs.Plain.{IsPlain}
use Rattle.lnet_edge.specs.Values.{circuit_outputs}
use Rattle.lnet_edge.specs.Wires.{IsCircuit}
use Rattle.lnet_naming.specs.Settling.{input_labels, output_labels}
use Rattle.lnet_edge.specs.Shown.{input_names, output_names}
use Rattle.lnet_blif.specs.Statements.{StatementValue}
use Rattle.lnet_blif.specs.Numbering.{input_of, output_of}
use Rattle.lnet_blif.specs.Texts.{names_of, circuit_of}
use Rattle.lnet_blif.specs.Meanings.{Means}
use Rattle.lnet_blifwriter.specs.Texts.{blif_text}
use Rattle.lnet_benchtext.specs.Written.{HasNames}
use Rattle.lnet_bliftext.specs.Written.{written_statements}
use Rattle.lnet_bliftext.proofs.Reading.{written-read}
use Rattle.lnet_blifmeans.proofs.Once.{count_inputs, count_outputs}
use Rattle.lnet_blifmeans.proofs.Means.{written_circuit, circuit_is}
use Rattle.lnet_blifmeans.proofs.OutputValues.{written_values}

abbrev read : List StatementValue → Result (List StatementValue) Malformed
read ss = Ok ss

same_read : (ss ts : List StatementValue) → read ss ≡ read ts → ss ≡ ts
same_read ss ts e = cc

-- a text means one circuit at most
means_only : (c d : CircuitValue) → HasNames c → Means (blif_text c) d → d ≡ written_circuit c
means_only c d has means = means.is ∙ ap circuit_of (same_read means.statements (written_statements c) (sym means.read ∙ written-read c has)) ∙ circuit_is c

pub read_outputs : (c d : CircuitValue) → HasNames c → IsCircuit c → IsPlain c.equations → Means (blif_text c) d → (a : ℕ → Bool) → circuit_outputs d a ≡ circuit_outputs c a
read_outputs c d has is plain means a =
    let same = means_only c d has means in
    ap (λ (e : CircuitValue). circuit_outputs e a) same ∙ written_values c is plain (subst IsCircuit same means.rules) a

-- ---- ports

inputs_named : (names xs : List (List ℕ)) → input_names (map (input_of names) xs) ≡ map (λ (x : List ℕ). Some x) xs
inputs_named names [] = refl
inputs_named names (x ∷ xs) = ap (λ (os : List (Option (List ℕ))). Some x ∷ os) (inputs_named names xs)

outputs_named : (names xs : List (List ℕ)) → output_names (map (output_of names) xs) ≡ map (λ (x : List ℕ). Some x) xs
outputs_named names [] = refl
outputs_named names (x ∷ xs) = ap (λ (os : List (Option (List ℕ))). Some x ∷ os) (outputs_named names xs)

pub read_inputs : (c d : CircuitValue) → HasNames c → Means (blif_text c) d → input_names d.inputs ≡ map (λ (x : List ℕ). Some x) (input_labels c.inputs)
read_inputs c d has means = ap (λ (e : CircuitValue). input_names e.inputs) (means_only c d has means) ∙ inputs_named (names_of (written_statements c)) (input_labels c.inputs)

pub read_output_names : (c d : CircuitValue) → HasNames c → Means (blif_text c) d → output_names d.outputs ≡ map (λ (x : List ℕ). Some x) (output_labels c.inputs c.outputs)
read_output_names c d has means = ap (λ (e : CircuitValue). output_names e.outputs) (means_only c d has means) ∙ outputs_named (names_of (written_statements c)) (output_labels c.inputs c.outputs)

pub read_counts : (c d : CircuitValue) → HasNames c → Means (blif_text c) d → (length d.inputs ≡ length c.inputs) × (length d.outputs ≡ length c.outputs)
read_counts c d has means =
    let names = names_of (written_statements c) in
    let same = means_only c d has means in
    (ap (λ (e : CircuitValue). length e.inputs) same ∙ length-map (input_labels c.inputs) (input_of names) ∙ count_inputs c, ap (λ (e : CircuitValue). length e.outputs) same ∙ length-map (output_labels c.inputs c.outputs) (output_of names) ∙ count_outputs c)
