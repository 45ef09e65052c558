use Rattle.std.proofs.Common.{refl, arith, Ok}
use Rattle.lnet_sop.proofs.Pushing.{conjunction_begins, conjunction_step, conjunction_refused}
use Rattle.lnet_sop.proofs.factoring.conjunction.Goals as goal

pub loop-variable-init : goal.loop-variable-init
loop-variable-init c = conjunction_begins c.args.recipe.now _ c.args.cube.now refl c.requires.short

pub returns-in_err-lit : goal.returns-in_err-lit
returns-in_err-lit c =
    conjunction_refused c.args.recipe.now c.loop-variable.recipe c.with_literal.new.recipe c.loop-variable.lit c.in_err-lit.field-0.0 c.from_residual.result c.args.cube.now c.loop-variable.variable c.args.recipe.now.leaves
    (omega arith) c.from_residual.ensures.0 c.loop-variable.invariant c.in_err-lit.ensures

pub loop-variable-preserved : goal.loop-variable-preserved
loop-variable-preserved c =
    conjunction_step c.args.recipe.now c.loop-variable.recipe c.with_literal.new.recipe c.loop-variable.lit (Ok c.in_ok-lit.lit) c.args.cube.now c.loop-variable.variable
    c.loop-variable.invariant c.in_ok-lit.ensures
