use Rattle.std.proofs.Common.{ap}
use Rattle.lnet_views.specs.declared.queue.Queue.{Queue}
use Rattle.lnet_views.proofs.Events.{enter-known, enter-sound, enter-kept}
use Rattle.lnet_views.proofs.Running.{rule-lawful}
use Rattle.lnet_views.proofs.repairing.enter.Goals as goal

pub answer_of-value-requires-clause-known : goal.answer_of-value-requires-clause-known
answer_of-value-requires-clause-known g c = enter-known c.args.look.now.network c.args.n.0 c.args.kept.now.values.items c.args.kept.now.levels.items c.args.kept.now.queue.levels.items c.requires.dag.acyclic c.requires.dag.closed c.requires.sound

pub returns-clause-sound : goal.returns-clause-sound
returns-clause-sound g c = enter-sound c.args.look.now.network c.args.n.0 c.answer_of-value.result.0 c.answer_of-value.result.1 c.args.kept.now.values.items _ c.args.kept.now.levels.items _ c.args.kept.now.queue.levels.items _ c.place.ensures.values c.place.ensures.levels (ap (λ (q : Queue). q.levels.items) c.place.ensures.queue) c.requires.sound (c.requires.room c.args.n.0 c.requires.live) c.requires.live c.requires.room

pub returns-clause-in_step : goal.returns-clause-in_step
returns-clause-in_step g c = enter-kept c.args.look.now.network c.args.n.0 c.answer_of-value.result.0 c.answer_of-value.result.1 c.args.kept.now.values.items _ c.args.kept.now.levels.items _ c.args.kept.now.queue.levels.items _ c.place.ensures.values c.place.ensures.levels (ap (λ (q : Queue). q.levels.items) c.place.ensures.queue) c.requires.sound (c.requires.room c.args.n.0 c.requires.live) g.R.Value.PartialEq.eq (g.R.Rule.first_of c.args.rule.now) (g.R.Rule.gives c.args.rule.now) (rule-lawful g.R.Value.PartialEq.eq (g.R.Rule.first_of c.args.rule.now) (g.R.Rule.gives c.args.rule.now) g.met.R.Value.Eq.laws (g.met.R.Rule.agrees c.args.rule.now)) c.requires.before.acyclic c.requires.dag.acyclic c.requires.before.closed c.requires.in_step c.answer_of-value.ensures.is
