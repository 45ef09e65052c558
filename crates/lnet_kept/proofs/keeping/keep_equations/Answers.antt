use Rattle.lnet_edge.specs.declared.circuit.Equation.{Equation}
use Rattle.lnet_edge.specs.CircuitLists.{equation_view}
use Rattle.lnet_benchmeans.proofs.Differing.{all_mapped}
use Rattle.lnet_kept.specs.Kept.{IsKeptEquation}
use Rattle.lnet_kept.proofs.Taken.{take_more, all_taken}
use Rattle.lnet_kept.proofs.keeping.keep_equations.Goals as goal

pub loop-equation-init : goal.loop-equation-init
loop-equation-init c = tt

pub loop-equation-preserved : goal.loop-equation-preserved
loop-equation-preserved c = take_more (λ (e : Equation). IsKeptEquation (equation_view e)) c.args.equations.now c.loop-equation.equation-index c.equation-item.result c.loop-equation-test.true c.equation-item.is c.keep_equation.ensures c.loop-equation.invariant

pub returns : goal.returns
returns c =
    let P : Equation → Type 0 = λ e. IsKeptEquation (equation_view e) in
    all_mapped P IsKeptEquation equation_view c.args.equations.now (λ e k. k) (all_taken P c.args.equations.now c.loop-equation.equation-index c.loop-equation-test.false c.loop-equation.invariant)
