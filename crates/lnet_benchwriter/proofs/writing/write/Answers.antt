use Rattle.std.proofs.Common.{◌≡◌, ℕ, List, Option, ◌++◌, ap, ◌∙◌, rules}
use Rattle.lnet_edge.specs.declared.circuit.InputPort.{InputPort}
use Rattle.lnet_edge.specs.Values.{input_place}
use Rattle.lnet_naming.specs.Settling.{input_labels}
use Rattle.lnet_nodes.specs.Nodes.{name_at, label_of}
use Rattle.lnet_nodes.specs.Kept.{label_in}
use Rattle.lnet_benchwriter.specs.Texts.{ports_text, form_text}
use Rattle.lnet_benchwriter.proofs.writing.write.Goals as goal

pub returns : goal.returns
returns c =
    let e : c.into_bytes.result.items ≡ ports_text c.args.circuit.now ++ form_text (label_in c.in_ok-labels.labels) c.args.circuit.now = search rules in
    let names : c.in_ok-inputs.field-0.inputs.items ≡ input_labels c.args.circuit.now.inputs = search rules in
    let same : label_in c.in_ok-labels.labels ≡ label_of c.args.circuit.now = λ i w. (c.in_ok-labels.ensures w ∙ ap (λ (ns : List (List ℕ)). name_at ns (input_place 0 w c.inputs.result.now)) names ∙ ap (name_at (input_labels c.args.circuit.now.inputs)) (ap (λ (ps : List InputPort). input_place 0 w ps) c.inputs.ensures)) i in
    record { text = e ∙ ap (λ (label : ℕ → Option (List ℕ)). ports_text c.args.circuit.now ++ form_text label c.args.circuit.now) same }
