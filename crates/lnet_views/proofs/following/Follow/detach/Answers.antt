use Rattle.lnet_views.proofs.Steps.{none-kept}
use Rattle.lnet_views.proofs.following.Follow.detach.Goals as goal

pub returns-clause-empty : goal.returns-clause-empty
returns-clause-empty g c n = none-kept c.clear.new.kept.values.items c.clear.new.kept.levels.items n (c.clear.ensures.levels n)
