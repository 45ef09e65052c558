use Rattle.std.proofs.Common.{refl, arith, sym, Ok, get_or, length}
use Rattle.lnet_sop.specs.Isop.{universe}
use Rattle.lnet_sop.proofs.Pushing.{lays_leaves, disjunction_begins, disjunction_step, disjunction_refused}
use Rattle.lnet_sop.proofs.factoring.disjunction.Goals as goal

pub loop-cube-init : goal.loop-cube-init
loop-cube-init c = disjunction_begins c.args.recipe.now _ c.args.recipe.now.leaves c.args.cubes.now refl c.requires.short

pub returns-in_err-lit : goal.returns-in_err-lit
returns-in_err-lit c =
    disjunction_refused c.args.recipe.now c.loop-cube.recipe c.with_cube.new.recipe c.loop-cube.lit c.in_err-lit.field-0.0 c.from_residual.result c.args.cubes.now
    (get_or c.args.cubes.now c.loop-cube.cube-index universe) c.loop-cube.cube-index c.args.recipe.now.leaves (length c.args.cubes.now)
    (omega arith) c.from_residual.ensures.0 c.loop-cube.invariant refl (sym (lays_leaves _ _ _ _ c.loop-cube.invariant)) c.in_err-lit.ensures

pub loop-cube-preserved : goal.loop-cube-preserved
loop-cube-preserved c =
    disjunction_step c.args.recipe.now c.loop-cube.recipe c.with_cube.new.recipe c.loop-cube.lit (Ok c.in_ok-lit.lit) c.args.cubes.now
    (get_or c.args.cubes.now c.loop-cube.cube-index universe) c.loop-cube.cube-index c.args.recipe.now.leaves
    c.loop-cube.invariant refl (sym (lays_leaves _ _ _ _ c.loop-cube.invariant)) c.in_ok-lit.ensures
