use Rattle.lnet_views.proofs.Steps.{same-kept}
use Rattle.lnet_views.proofs.following.Follow.reserve.Goals as goal

pub returns-in-None-clause-kept : goal.returns-in-None-clause-kept
returns-in-None-clause-kept g c = same-kept c.args.self.now.kept.values.items c.args.self.now.kept.levels.items c.make_room.new.levels.items c.make_room.ensures.levels
