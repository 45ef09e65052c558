use Rattle.std.proofs.Common.{List, subst, ◌++◌, take, ap, ◌∙◌}
use Rattle.lnet_edge.specs.declared.circuit.WireRef.{WireRef}
use Rattle.lnet_edge.specs.CircuitLists.{equation_views}
use Rattle.lnet_benchwriter.specs.Nodes.{equation_uses}
use Rattle.lnet_benchwriter.specs.Kept.{KnowsTurned}
use Rattle.lnet_benchwriter.proofs.Uses.{pushed_operands}
use Rattle.lnet_benchwriter.proofs.complements.note_equations.Goals as goal

pub loop-equation-preserved : goal.loop-equation-preserved
loop-equation-preserved c = λ uses knows.
    let front = uses ++ equation_uses (equation_views (take c.loop-equation.equation-index c.args.equations.now)) in
    subst (KnowsTurned c.note_operands.new.turned) (ap (λ (rs : List WireRef). front ++ rs) c.as_slice.ensures ∙ pushed_operands uses c.args.equations.now c.loop-equation.equation-index c.equation-item.result c.loop-equation-test.true c.equation-item.is) (c.in_ok-note_operands.ensures front (c.loop-equation.invariant uses knows))
