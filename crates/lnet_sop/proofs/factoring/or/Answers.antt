use Rattle.std.proofs.Common.{Ok}
use Rattle.lnet_sop.proofs.Pushing.{or_lays, and_of_others}
use Rattle.lnet_sop.proofs.factoring.or.Goals as goal

pub returns : goal.returns
returns c =
    or_lays c.args.recipe.now c.and.new.recipe c.args.a c.args.b c.in_ok-lit.lit c.complement-3.result
    (and_of_others c.args.recipe.now c.and.new.recipe (Ok c.in_ok-lit.lit) c.args.a c.args.b c.complement.result c.complement-2.result c.complement.ensures.value c.complement-2.ensures.value c.in_ok-lit.ensures)
    c.complement-3.ensures.value c.complement-3.ensures.place
