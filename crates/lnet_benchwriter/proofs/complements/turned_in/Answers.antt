use Rattle.std.proofs.Common.{[], subst, ◌++◌, refl}
use Rattle.lnet_benchwriter.specs.Kept.{KnowsTurned}
use Rattle.lnet_benchwriter.specs.Nodes.{output_uses, equation_uses}
use Rattle.lnet_benchwriter.proofs.complements.turned_in.Goals as goal

pub returns : goal.returns
returns c =
    let none = c.in_ok-note_outputs.ensures [] (λ w. rw c.new-turned.ensures.empty refl) in
    let all = c.in_ok-note_equations.ensures (output_uses c.outputs.result.now) none in
    subst (λ ps. KnowsTurned c.note_equations.new.turned (output_uses ps ++ equation_uses c.args.circuit.now.equations)) c.outputs.ensures
    (subst (λ es. KnowsTurned c.note_equations.new.turned (output_uses c.outputs.result.now ++ equation_uses es)) c.equations.ensures.value all)
