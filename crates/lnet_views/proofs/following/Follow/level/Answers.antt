use Rattle.std.proofs.Common.{◌∙◌}
use Rattle.std.specs.Prelude.{is_some}
use Rattle.lnet_views.proofs.Steps.{level-kept}
use Rattle.lnet_views.proofs.following.Follow.level.Goals as goal

pub returns-clause-level : goal.returns-clause-level
returns-clause-level g c = c.level_of.ensures ∙ level-kept c.args.self.now.kept.values.items c.args.self.now.kept.levels.items (is_some c.args.self.now.rule) c.args.self.now.full c.args.self.now.empty c.args.n.0
