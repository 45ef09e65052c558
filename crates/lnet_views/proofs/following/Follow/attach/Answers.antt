use Rattle.lnet_views.proofs.Steps.{none-kept}
use Rattle.lnet_views.proofs.following.Follow.attach.Goals as goal

pub returns-in-Err-clause-empty : goal.returns-in-Err-clause-empty
returns-in-Err-clause-empty g c n = none-kept c.clear.new.kept.values.items c.clear.new.kept.levels.items n (c.clear.ensures.levels n)
