use Rattle.std.proofs.Common.{map, ap, ◌∙◌}
use Rattle.lnet_edge.specs.declared.circuit.InputPort.{InputPort}
use Rattle.lnet_edge.specs.declared.circuit.OutputPort.{OutputPort}
use Rattle.lnet_build.proofs.naming.names_of.Goals as goal

pub returns : goal.returns
returns c =
    let inputs = c.in_ok-inputs.ensures ∙ ap (map (λ (p : InputPort). p.name)) c.inputs.ensures in
    let outputs = c.in_ok-outputs.ensures ∙ ap (map (λ (p : OutputPort). p.name)) c.outputs.ensures in
    c.new.ensures ∙ (λ i. record { inputs = inputs i; outputs = outputs i })
