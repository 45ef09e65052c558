use Rattle.std.proofs.Common.{◌≡◌, ◌<◌, ◌≤◌, arith, ap, sym, subst, ◌∙◌, length, true, false}
use Rattle.std.specs.Prelude.{is_some}
use Rattle.lnet_model.specs.Changes.{was}
use Rattle.lnet_views.specs.Follows.{answers_in}
use Rattle.lnet_views.proofs.Running.{rule-lawful}
use Rattle.lnet_views.proofs.Steps.{to-step, from-kept, from-sound, kept-small}
use Rattle.lnet_views.proofs.FollowLemmas.{followed-by, few-after, heads-after}
use Rattle.lnet_views.proofs.Counts.{level-low}
use Rattle.lnet_model.specs.Dags.{NUMBERS}
use Rattle.lnet_model.proofs.Levels.{level-small}
use Rattle.lnet_views.proofs.following.Follow.after.Goals as goal

pub follow-requires-clause-sound : goal.follow-requires-clause-sound
follow-requires-clause-sound g c =
    let len = c.args.self.now.full (ap is_some c.in-Some.is) in
    from-sound g.R.Value.PartialEq.eq (g.R.Rule.first_of c.in-Some.rule) (g.R.Rule.gives c.in-Some.rule) (was c.args.event.now c.args.look.network) c.requires.before.acyclic c.args.self.now.kept.values.items c.args.self.now.kept.levels.items (rule-lawful g.R.Value.PartialEq.eq (g.R.Rule.first_of c.in-Some.rule) (g.R.Rule.gives c.in-Some.rule) g.met.R.Value.Eq.laws (g.met.R.Rule.agrees c.in-Some.rule)) (sym len) (followed-by g.R.Value.PartialEq.eq g.R.Rule.first_of g.R.Rule.gives c.args.self.now.rule (answers_in c.args.self.now.kept) (was c.args.event.now c.args.look.network) c.in-Some.rule c.in-Some.is c.requires.in_step) c.args.self.now.kept.queue.levels.items (subst (λ z. z ≤ length c.args.self.now.kept.queue.levels.items) (sym len) c.args.self.now.waits_len) (λ n live. subst (λ z. n < z) (sym len) (c.requires.room_before n live))

pub follow-requires-clause-in_step : goal.follow-requires-clause-in_step
follow-requires-clause-in_step g c =
    let len = c.args.self.now.full (ap is_some c.in-Some.is) in
    from-kept g.R.Value.PartialEq.eq (g.R.Rule.first_of c.in-Some.rule) (g.R.Rule.gives c.in-Some.rule) (was c.args.event.now c.args.look.network) c.requires.before.acyclic c.args.self.now.kept.values.items c.args.self.now.kept.levels.items (rule-lawful g.R.Value.PartialEq.eq (g.R.Rule.first_of c.in-Some.rule) (g.R.Rule.gives c.in-Some.rule) g.met.R.Value.Eq.laws (g.met.R.Rule.agrees c.in-Some.rule)) (sym len) (followed-by g.R.Value.PartialEq.eq g.R.Rule.first_of g.R.Rule.gives c.args.self.now.rule (answers_in c.args.self.now.kept) (was c.args.event.now c.args.look.network) c.in-Some.rule c.in-Some.is c.requires.in_step)

pub invariant_of-self : goal.invariant_of-self
invariant_of-self g c = record {
  few = few-after c.args.self.now.kept.values.items c.follow.new.kept.values.items c.args.self.now.kept.levels.items c.follow.new.kept.levels.items c.args.self.now.few (c.args.self.now.full (ap is_some c.in-Some.is)) c.follow.ensures.len c.follow.ensures.sound.levels_len;
  waits_len = subst (λ z. z ≤ length c.follow.new.kept.queue.levels.items) (sym c.follow.ensures.sound.levels_len) c.follow.ensures.sound.waits_len;
  idle = c.follow.ensures.idle;
  small = kept-small g.R.Value.PartialEq.eq (g.R.Rule.first_of c.in-Some.rule) (g.R.Rule.gives c.in-Some.rule) c.args.look.network c.live_count-live_count.ensures.stored.dag.acyclic c.follow.new.kept.values.items c.follow.new.kept.levels.items c.follow.ensures.in_step NUMBERS (λ n. let h = level-small c.args.look.network n in let k = c.live_count-live_count.ensures.limit in omega arith);
  low = kept-small g.R.Value.PartialEq.eq (g.R.Rule.first_of c.in-Some.rule) (g.R.Rule.gives c.in-Some.rule) c.args.look.network c.live_count-live_count.ensures.stored.dag.acyclic c.follow.new.kept.values.items c.follow.new.kept.levels.items c.follow.ensures.in_step (length c.follow.new.kept.levels.items) (level-low c.args.look.network (length c.follow.new.kept.levels.items) (λ m live. subst (λ z. m < z) (sym c.follow.ensures.sound.levels_len) (c.follow.ensures.sound.room m live)));
  full = λ e. sym c.follow.ensures.sound.levels_len;
  heads = λ e. heads-after c.args.self.now.kept.values.items c.follow.new.kept.values.items c.args.self.now.kept.levels.items c.follow.new.kept.levels.items c.args.self.now.kept.queue.heads.items c.follow.new.kept.queue.heads.items (c.args.self.now.full (ap is_some c.in-Some.is)) (c.args.self.now.heads e) c.follow.ensures.len c.follow.ensures.sound.levels_len c.follow.ensures.heads;
  empty = λ e n. let z : true ≡ false = sym (ap is_some c.in-Some.is) ∙ e in cc;
}

pub returns-in-Some-clause-in_step : goal.returns-in-Some-clause-in_step
returns-in-Some-clause-in_step g c = record {
  asked = c.in-Some.rule;
  attached = c.in-Some.is;
  answers = to-step g.R.Value.PartialEq.eq (g.R.Rule.first_of c.in-Some.rule) (g.R.Rule.gives c.in-Some.rule) c.args.look.network c.live_count-live_count.ensures.stored.dag.acyclic c.follow.new.kept.values.items c.follow.new.kept.levels.items c.follow.new.kept.queue.levels.items c.follow.ensures.in_step c.follow.ensures.sound;
}
