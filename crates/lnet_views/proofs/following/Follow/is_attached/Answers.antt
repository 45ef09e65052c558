use Rattle.std.proofs.Common.{sym, ◌∙◌}
use Rattle.lnet_views.proofs.Steps.{none-kept}
use Rattle.lnet_views.proofs.following.Follow.is_attached.Goals as goal

pub returns-clause-empty : goal.returns-clause-empty
returns-clause-empty g c e n = none-kept c.args.self.now.kept.values.items c.args.self.now.kept.levels.items n (c.args.self.now.empty (sym c.is_some.ensures ∙ e) n)
