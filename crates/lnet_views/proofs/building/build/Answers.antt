use Rattle.std.proofs.Common.{subst, sym, length, ◌<◌, ◌≤◌}
use Rattle.lnet_model.specs.Networks.{live_count}
use Rattle.lnet_model.specs.Dags.{NUMBERS}
use Rattle.lnet_store.specs.StoreValues.{StoreValue}
use Rattle.lnet_views.proofs.Running.{rule-lawful}
use Rattle.lnet_views.proofs.FromScratch.{building-low, building-small, building-in-step}
use Rattle.lnet_views.proofs.Counts.{level-low}
use Rattle.lnet_views.proofs.building.build.Goals as goal

pub returns-clause-small : goal.returns-clause-small
returns-clause-small g c =
    building-small g.R.Value.PartialEq.eq (g.R.Rule.first_of c.args.rule.now) (g.R.Rule.gives c.args.rule.now) (rule-lawful g.R.Value.PartialEq.eq (g.R.Rule.first_of c.args.rule.now) (g.R.Rule.gives c.args.rule.now) g.met.R.Value.Eq.laws (g.met.R.Rule.agrees c.args.rule.now)) c.args.store.now.network c.numbers.ensures.stored.dag.acyclic c.complete_all.new.kept.values.items c.complete_all.new.kept.levels.items c.complete_all.new.kept.queue.levels.items c.complete_all.ensures.building
    (subst (λ (s : StoreValue). live_count s.network ≤ NUMBERS) c.look-look.ensures.look c.live_count-live_count.ensures.limit)

pub returns-clause-in_step : goal.returns-clause-in_step
returns-clause-in_step g c =
    building-in-step g.R.Value.PartialEq.eq (g.R.Rule.first_of c.args.rule.now) (g.R.Rule.gives c.args.rule.now) (rule-lawful g.R.Value.PartialEq.eq (g.R.Rule.first_of c.args.rule.now) (g.R.Rule.gives c.args.rule.now) g.met.R.Value.Eq.laws (g.met.R.Rule.agrees c.args.rule.now)) c.args.store.now.network c.numbers.ensures.stored.dag.acyclic c.complete_all.new.kept.values.items c.complete_all.new.kept.levels.items c.complete_all.new.kept.queue.levels.items c.complete_all.ensures.building c.in_ok-complete_all.ensures.done

pub returns-clause-low : goal.returns-clause-low
returns-clause-low g c =
    let B = c.complete_all.ensures.building in
    building-low g.R.Value.PartialEq.eq (g.R.Rule.first_of c.args.rule.now) (g.R.Rule.gives c.args.rule.now) (rule-lawful g.R.Value.PartialEq.eq (g.R.Rule.first_of c.args.rule.now) (g.R.Rule.gives c.args.rule.now) g.met.R.Value.Eq.laws (g.met.R.Rule.agrees c.args.rule.now)) c.args.store.now.network c.numbers.ensures.stored.dag.acyclic c.complete_all.new.kept.values.items c.complete_all.new.kept.levels.items c.complete_all.new.kept.queue.levels.items c.complete_all.ensures.building (length c.complete_all.new.kept.levels.items) (level-low c.args.store.now.network (length c.complete_all.new.kept.levels.items) (λ m live. subst (λ z. m < z) (sym B.levels_len) (B.room m live)))
