use Rattle.std.proofs.Common.{ℕ, ap, IsSome, refl, arith, not, ◌≤◌, subst, sym}
use Rattle.lnet_model.specs.Networks.{IsGate, NetworkValue, gate_at, gate_in}
use Rattle.lnet_model.specs.Changes.{was, IsEvent, IsGateAt}
use Rattle.lnet_model.specs.Changes.{with_entry}
use Rattle.lnet_model.specs.Dags.{IsDag}
use Rattle.lnet_views.specs.Repair.{pair_eq}
use Rattle.lnet_model.specs.Visits.{reads_of}
use Rattle.lnet_views.specs.declared.queue.Queue.{Queue}
use Rattle.lnet_views.specs.Keeping.{IsSound, IsKept, scratch}
use Rattle.lnet_views.specs.Rules.{rule_bound}
use Rattle.lnet_views.proofs.Events.{modified-sound, leave-sound, leave-kept, leave-inside}
use Rattle.lnet_views.proofs.Bounds.{rule-positive, repair-bound}
use Rattle.lnet_views.proofs.Running.{rule-lawful}
use Rattle.lnet_views.proofs.repairing.follow.Goals as goal

gate-some : (N : NetworkValue) (n : ℕ) → IsGateAt N n → IsSome (gate_at N n)
gate-some N n g = subst (λ o. IsSome (gate_in o)) (sym g.1) refl

pub repair-requires-clause-gate : goal.repair-requires-clause-gate
repair-requires-clause-gate g c = gate-some c.args.look.now.network c.in-Modified.n.0 (subst (λ e. IsEvent e c.args.look.now.network) c.in-Modified.is c.requires.event).0

pub repair-requires-clause-sound : goal.repair-requires-clause-sound
repair-requires-clause-sound g c = modified-sound c.args.look.now.network c.in-Modified.n.0 c.in-Modified.old _ _ _ (gate-some c.args.look.now.network c.in-Modified.n.0 (subst (λ e. IsEvent e c.args.look.now.network) c.in-Modified.is c.requires.event).0) (subst (λ e. IsSound (was e c.args.look.now.network) c.args.kept.now.values.items c.args.kept.now.levels.items c.args.kept.now.queue.levels.items) c.in-Modified.is c.requires.sound)

pub leave-requires : goal.leave-requires
leave-requires g c = record { inside = leave-inside c.args.look.now.network c.in-Deleted.n.0 c.in-Deleted.field-1 c.args.kept.now.values.items c.args.kept.now.levels.items c.args.kept.now.queue.levels.items (subst (λ e. IsSound (was e c.args.look.now.network) c.args.kept.now.values.items c.args.kept.now.levels.items c.args.kept.now.queue.levels.items) c.in-Deleted.is c.requires.sound) }

pub returns-in-Added-clause-visits : goal.returns-in-Added-clause-visits
returns-in-Added-clause-visits g c =
    let one = rule-positive g.R.Value.PartialEq.eq (g.R.Rule.first_of c.args.rule.now) (g.R.Rule.gives c.args.rule.now) c.args.event.now c.args.look.now.network in
    let count = c.enter.ensures.count in
    omega arith

pub returns-in-Modified-clause-visits : goal.returns-in-Modified-clause-visits
returns-in-Modified-clause-visits g c =
    let count = c.repair.ensures.visits in
    let more0 = repair-bound g.R.Value.PartialEq.eq (g.R.Rule.first_of c.args.rule.now) (g.R.Rule.gives c.args.rule.now) (rule-lawful g.R.Value.PartialEq.eq (g.R.Rule.first_of c.args.rule.now) (g.R.Rule.gives c.args.rule.now) g.met.R.Value.Eq.laws (g.met.R.Rule.agrees c.args.rule.now)) c.args.look.now.network c.in-Modified.n.0 c.in-Modified.old (subst (λ e. IsDag (was e c.args.look.now.network)) c.in-Modified.is c.requires.before).acyclic c.requires.stored.dag.acyclic c.in-Modified.n refl in
    let more = subst (λ e. reads_of c.args.look.now.network (λ x. not (pair_eq g.R.Value.PartialEq.eq (scratch (g.R.Rule.first_of c.args.rule.now) (g.R.Rule.gives c.args.rule.now) c.args.look.now.network x) (scratch (g.R.Rule.first_of c.args.rule.now) (g.R.Rule.gives c.args.rule.now) (with_entry c.args.look.now.network c.in-Modified.n.0 (IsGate c.in-Modified.old)) x))) ≤ rule_bound g.R.Value.PartialEq.eq (g.R.Rule.first_of c.args.rule.now) (g.R.Rule.gives c.args.rule.now) e c.args.look.now.network) (sym c.in-Modified.is) more0 in
    omega arith

pub returns-in-Deleted-clause-sound : goal.returns-in-Deleted-clause-sound
returns-in-Deleted-clause-sound g c = leave-sound c.args.look.now.network c.in-Deleted.n.0 c.in-Deleted.field-1 c.args.kept.now.values.items _ c.args.kept.now.levels.items _ c.args.kept.now.queue.levels.items _ c.leave.ensures.values c.leave.ensures.levels (ap (λ (q : Queue). q.levels.items) c.leave.ensures.queue) (subst (λ e. IsSound (was e c.args.look.now.network) c.args.kept.now.values.items c.args.kept.now.levels.items c.args.kept.now.queue.levels.items) c.in-Deleted.is c.requires.sound) (subst (λ e. IsEvent e c.args.look.now.network) c.in-Deleted.is c.requires.event)

pub returns-in-Deleted-clause-in_step : goal.returns-in-Deleted-clause-in_step
returns-in-Deleted-clause-in_step g c = leave-kept c.args.look.now.network c.in-Deleted.n.0 c.in-Deleted.field-1 c.args.kept.now.values.items _ c.args.kept.now.levels.items _ c.args.kept.now.queue.levels.items _ c.leave.ensures.values c.leave.ensures.levels (ap (λ (q : Queue). q.levels.items) c.leave.ensures.queue) (subst (λ e. IsSound (was e c.args.look.now.network) c.args.kept.now.values.items c.args.kept.now.levels.items c.args.kept.now.queue.levels.items) c.in-Deleted.is c.requires.sound) (subst (λ e. IsEvent e c.args.look.now.network) c.in-Deleted.is c.requires.event) g.R.Value.PartialEq.eq (g.R.Rule.first_of c.args.rule.now) (g.R.Rule.gives c.args.rule.now) (rule-lawful g.R.Value.PartialEq.eq (g.R.Rule.first_of c.args.rule.now) (g.R.Rule.gives c.args.rule.now) g.met.R.Value.Eq.laws (g.met.R.Rule.agrees c.args.rule.now)) (subst (λ e. IsDag (was e c.args.look.now.network)) c.in-Deleted.is c.requires.before).acyclic c.requires.stored.dag.acyclic c.requires.stored.dag.closed (subst (λ e. IsKept g.R.Value.PartialEq.eq (g.R.Rule.first_of c.args.rule.now) (g.R.Rule.gives c.args.rule.now) (was e c.args.look.now.network) c.args.kept.now.values.items c.args.kept.now.levels.items) c.in-Deleted.is c.requires.in_step)
