use Rattle.std.proofs.Common.{sym, ap, ◌∙◌}
use Rattle.std.specs.Prelude.{is_some, option_map}
use Rattle.lnet_views.proofs.Steps.{value-kept, none-kept}
use Rattle.lnet_views.proofs.following.Follow.value.Goals as goal

pub returns-in-Some-clause-value : goal.returns-in-Some-clause-value
returns-in-Some-clause-value g c = c.value_of.ensures ∙ value-kept c.args.self.now.kept.values.items c.args.self.now.kept.levels.items (is_some c.args.self.now.rule) c.args.self.now.full c.args.self.now.empty c.args.n.0 c.in-Some.field-0 (sym c.level_of.ensures ∙ c.in-Some.is)

pub returns-in-None-clause-value : goal.returns-in-None-clause-value
returns-in-None-clause-value g c = sym (ap (option_map (λ a. a.0)) (none-kept c.args.self.now.kept.values.items c.args.self.now.kept.levels.items c.args.n.0 (sym c.level_of.ensures ∙ c.in-None.is)))
