use Rattle.lnet_hashed.proofs.KeptViews.{told_twice}
use Rattle.lnet_uses.proofs.building.adder_in.Goals as goal

pub returns-clause-in_step : goal.returns-clause-in_step
returns-clause-in_step g c =
    told_twice c.input.ensures.in_step (told_twice c.input-2.ensures.in_step (told_twice c.input-3.ensures.in_step
    (told_twice c.xor.ensures.in_step (told_twice c.xor-2.ensures.in_step (told_twice c.maj.ensures.in_step
    (told_twice c.output.ensures.in_step c.output-2.ensures.in_step))))))
