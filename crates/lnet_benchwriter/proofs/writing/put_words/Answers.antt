use Rattle.std.proofs.Common.{◌≡◌, ℕ, Bool, List, ◌++◌, string_bytes, ap, ◌∙◌}
use Rattle.std.specs.List.{flat_map}
use Rattle.lnet_edge.specs.declared.circuit.InputPort.{InputPort}
use Rattle.lnet_edge.specs.declared.circuit.OutputPort.{OutputPort}
use Rattle.lnet_edge.specs.Circuits.{EquationValue}
use Rattle.lnet_naming.specs.Settling.{output_labels}
use Rattle.lnet_benchwriter.specs.declared.writing.Form.TheVariants.{Words}
use Rattle.lnet_benchwriter.specs.Nodes.{is_turned, uses_of}
use Rattle.lnet_nodes.specs.Kept.{label_in}
use Rattle.lnet_benchwriter.specs.Kept.{turned_in}
use Rattle.lnet_benchwriter.specs.Texts.{word_form, word_lines, input_complements, output_line, output_lines}
use Rattle.lnet_benchwriter.proofs.Pieces.{three}
use Rattle.lnet_benchwriter.proofs.writing.put_words.Goals as goal

pub returns : goal.returns
returns c =
    let same : turned_in c.in_ok-turned.turned ≡ is_turned (uses_of c.args.circuit.now) = λ i w. c.in_ok-turned.ensures w i in
    let inputs : string_bytes c.put_input_complements.new.out ≡ string_bytes c.args.out.now ++ input_complements (label_in c.args.labels.now) (turned_in c.in_ok-turned.turned) c.args.circuit.now.inputs =
    c.in_ok-put_input_complements.ensures ∙ ap (λ (ps : List InputPort). string_bytes c.args.out.now ++ input_complements (label_in c.args.labels.now) (turned_in c.in_ok-turned.turned) ps) c.inputs.ensures in
    let gates : string_bytes c.put_gates.new.out ≡ string_bytes c.put_input_complements.new.out ++ flat_map (word_lines (label_in c.args.labels.now) (turned_in c.in_ok-turned.turned)) c.args.circuit.now.equations =
    c.in_ok-put_gates.ensures ∙ ap (λ (es : List EquationValue). string_bytes c.put_input_complements.new.out ++ flat_map (word_lines (label_in c.args.labels.now) (turned_in c.in_ok-turned.turned)) es) c.equations.ensures.value in
    let outputs : string_bytes c.put_outputs.new.out ≡ string_bytes c.put_gates.new.out ++ output_lines (output_line Words (label_in c.args.labels.now)) (output_labels c.args.circuit.now.inputs c.args.circuit.now.outputs) c.args.circuit.now.outputs =
    c.in_ok-put_outputs.ensures
    ∙ ap (λ (ps : List OutputPort). string_bytes c.put_gates.new.out ++ output_lines (output_line Words (label_in c.args.labels.now)) c.args.outputs.now ps) c.outputs.ensures
    ∙ ap (λ (names : List (List ℕ)). string_bytes c.put_gates.new.out ++ output_lines (output_line Words (label_in c.args.labels.now)) names c.args.circuit.now.outputs) c.requires.outputs in
    three _ _ _ _ _ _ _ inputs gates outputs ∙ ap (λ (other : ℕ → Bool). string_bytes c.args.out.now ++ word_form (label_in c.args.labels.now) other c.args.circuit.now) same
