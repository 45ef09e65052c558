-- Outputs of a written text show names that are driven.
use Rattle.std.proofs.Common.{◌≡◌, ℕ, pred, true, List, [], ◌∷◌, ◌++◌, length, map, refl, ap, ◌∙◌, inr}
use Rattle.std.specs.List.{AllByRecursion}
use Rattle.lnet_edge.specs.declared.circuit.OutputPort.{OutputPort}
use Rattle.lnet_edge.specs.declared.circuit.Rule.{Rule}
use Rattle.lnet_edge.specs.declared.circuit.WireRef.{WireRef}
use Rattle.lnet_edge.specs.Circuits.{CircuitValue}
use Rattle.lnet_wires.specs.Naming.{is_seen}
use Rattle.lnet_naming.specs.Settling.{settle_all, input_labels, output_labels}
use Rattle.lnet_edge.specs.Shown.{input_names, output_names}
use Rattle.lnet_bench.specs.Statements.{StatementValue, Input, Output, Gate, Constant}
use Rattle.lnet_benchtext.specs.Written.{port_statements, output_statements}
use Rattle.lnet_benchmeans.specs.Driving.{driven_names, IsUsable, shown_names}
use Rattle.lnet_benchmeans.proofs.Differing.{all_weak}
use Rattle.lnet_benchmeans.proofs.Middle.{names_both}
use Rattle.lnet_benchmeans.proofs.Once.{length-output_names, shows}
use Rattle.lnet_benchmeans.proofs.Nodes.{length_labels}
use Rattle.lnet_benchmeans.proofs.Tables.{first_seen, more_seen}

-- ---- names that outputs show

pub shown_both : (P : List ℕ → Type 0) (ss ts : List StatementValue) → AllByRecursion P (shown_names ss) → AllByRecursion P (shown_names ts) → AllByRecursion P (shown_names (ss ++ ts))
shown_both P [] ts first second = second
shown_both P (Input name ∷ ss) ts first second = shown_both P ss ts first second
shown_both P (Output name ∷ ss) ts first second = (first.0, shown_both P ss ts first.1 second)
shown_both P (Gate target rule operands ∷ ss) ts first second = shown_both P ss ts first second
shown_both P (Constant target value ∷ ss) ts first second = shown_both P ss ts first second

inputs_show : (P : List ℕ → Type 0) (names : List (List ℕ)) → AllByRecursion P (shown_names (map Input names))
inputs_show P [] = tt
inputs_show P (name ∷ names) = inputs_show P names

outputs_show : (P : List ℕ → Type 0) (names : List (List ℕ)) → AllByRecursion P names → AllByRecursion P (shown_names (map Output names))
outputs_show P [] all = tt
outputs_show P (name ∷ names) all = (all.0, outputs_show P names all.1)

last_show : (P : List ℕ → Type 0) (rule : WireRef → Rule) (operands : WireRef → List (List ℕ)) (names : List (List ℕ)) (ps : List OutputPort) → AllByRecursion P (shown_names (output_statements (shows rule operands) names ps))
last_show P rule operands [] ps = tt
last_show P rule operands (name ∷ names) [] = tt
last_show P rule operands (name ∷ names) (p ∷ ps) = last_show P rule operands names ps

-- ---- names that are driven

pub last_drive : (rule : WireRef → Rule) (operands : WireRef → List (List ℕ)) (names : List (List ℕ)) (ps : List OutputPort) → length names ≡ length ps → driven_names (output_statements (shows rule operands) names ps) ≡ names
last_drive rule operands [] [] same = refl
last_drive rule operands [] (p ∷ ps) same = refl
last_drive rule operands (name ∷ names) [] same = absurd cc
last_drive rule operands (name ∷ names) (p ∷ ps) same = ap (λ (xs : List (List ℕ)). name ∷ xs) (last_drive rule operands names ps (ap pred same))

seen_after : (ns ms : List (List ℕ)) (x : List ℕ) → is_seen ms x ≡ true → is_seen (ns ++ ms) x ≡ true
seen_after [] ms x seen = seen
seen_after (n ∷ ns) ms x seen = more_seen (ns ++ ms) n x (seen_after ns ms x seen)

seen_themselves : (names : List (List ℕ)) → AllByRecursion (λ x. is_seen names x ≡ true) names
seen_themselves [] = tt
seen_themselves (name ∷ names) = (first_seen names name, all_weak (λ x. is_seen names x ≡ true) (λ x. is_seen (name ∷ names) x ≡ true) names (more_seen names name) (seen_themselves names))

-- there are as many names of outputs as outputs
pub as_many_outputs : (c : CircuitValue) → length (output_labels c.inputs c.outputs) ≡ length c.outputs
as_many_outputs c = length_labels 111 0 (settle_all 105 0 [] (input_names c.inputs)).1 (output_names c.outputs) ∙ length-output_names c.outputs

-- ports, statements that show nothing, and the statements of outputs
pub outputs_usable : (c : CircuitValue) (gates : List StatementValue) (rule : WireRef → Rule) (operands : WireRef → List (List ℕ)) → ((P : List ℕ → Type 0) → AllByRecursion P (shown_names gates)) → AllByRecursion (IsUsable (driven_names (port_statements c ++ (gates ++ output_statements (shows rule operands) (output_labels c.inputs c.outputs) c.outputs)))) (shown_names (port_statements c ++ (gates ++ output_statements (shows rule operands) (output_labels c.inputs c.outputs) c.outputs)))
outputs_usable c gates rule operands nothing =
    let names = output_labels c.inputs c.outputs in
    let outs = output_statements (shows rule operands) names c.outputs in
    let ports = port_statements c in
    let P = IsUsable (driven_names (ports ++ (gates ++ outs))) in
    let drive : driven_names (ports ++ (gates ++ outs)) ≡ driven_names ports ++ (driven_names gates ++ names) =
    names_both ports (gates ++ outs)
    ∙ ap (λ (xs : List (List ℕ)). driven_names ports ++ xs) (names_both gates outs)
    ∙ ap (λ (xs : List (List ℕ)). driven_names ports ++ (driven_names gates ++ xs)) (last_drive rule operands names c.outputs (as_many_outputs c)) in
    let usable = all_weak (λ x. is_seen names x ≡ true) P names (λ x seen. inr (ap (λ (xs : List (List ℕ)). is_seen xs x) drive ∙ seen_after (driven_names ports) (driven_names gates ++ names) x (seen_after (driven_names gates) names x seen))) (seen_themselves names) in
    shown_both P ports (gates ++ outs)
    (shown_both P (map Input (input_labels c.inputs)) (map Output names) (inputs_show P (input_labels c.inputs)) (outputs_show P names usable))
    (shown_both P gates outs (nothing P) (last_show P rule operands names c.outputs))
