use Rattle.std.proofs.Common.{ap, sym, subst, ◌<◌, length, ℕ, IsSome, None, get_or}
use Rattle.lnet_model.specs.Fanouts.{IsParent}
use Rattle.lnet_model.specs.Networks.{entry_at}
use Rattle.lnet_model.specs.Along.{In, fanin_nodes}
use Rattle.lnet_views.specs.declared.queue.Queue.{Queue}
use Rattle.lnet_views.specs.Keeping.{answer}
use Rattle.lnet_views.proofs.Running.{rule-lawful}
use Rattle.lnet_views.proofs.Renewal.{gate-is, fanin-live, renewed-read, first-is}
use Rattle.lnet_views.proofs.FromScratch.{building-small, place-building, bare-fanin}
use Rattle.lnet_views.proofs.building.visit.Goals as goal

pub of-value-requires-clause-inside : goal.of-value-requires-clause-inside
of-value-requires-clause-inside g c =
    let at = gate-is (entry_at c.args.store.now.network c.args.n.0) c.in-Some.gate.now c.in-Some.ensures in
    λ m i. subst (λ z. m < length z) (sym c.as_slice.ensures.value) (c.requires.building.room m (fanin-live c.args.store.now.network c.args.n.0 c.in-Some.gate.now c.requires.stored.dag.closed at m i))

pub level_above-level-requires : goal.level_above-level-requires
level_above-level-requires g c = record { small = building-small g.R.Value.PartialEq.eq (g.R.Rule.first_of c.args.rule.now) (g.R.Rule.gives c.args.rule.now) (rule-lawful g.R.Value.PartialEq.eq (g.R.Rule.first_of c.args.rule.now) (g.R.Rule.gives c.args.rule.now) g.met.R.Value.Eq.laws (g.met.R.Rule.agrees c.args.rule.now)) c.args.store.now.network c.requires.stored.dag.acyclic c.args.kept.now.values.items c.args.kept.now.levels.items c.args.kept.now.queue.levels.items c.requires.building c.requires.small }

pub returns-in-None-first_undone-clause-building : goal.returns-in-None-first_undone-clause-building
returns-in-None-first_undone-clause-building g c =
    let at = gate-is (entry_at c.args.store.now.network c.args.n.0) c.in-Some.gate.now c.in-Some.ensures in
    let known : (m : ℕ) → IsParent c.args.store.now.network m c.args.n.0 → IsSome (get_or c.args.kept.now.levels.items m None) = λ m i. c.in-None-first_undone.ensures m (subst (λ o. In m (fanin_nodes o)) at i) in
    place-building g.R.Value.PartialEq.eq (g.R.Rule.first_of c.args.rule.now) (g.R.Rule.gives c.args.rule.now) (rule-lawful g.R.Value.PartialEq.eq (g.R.Rule.first_of c.args.rule.now) (g.R.Rule.gives c.args.rule.now) g.met.R.Value.Eq.laws (g.met.R.Rule.agrees c.args.rule.now)) c.args.store.now.network c.requires.stored.dag.acyclic c.args.kept.now.values.items c.args.kept.now.levels.items c.args.kept.now.queue.levels.items c.requires.building c.args.n.0 c.requires.live c.requires.todo c.of-value.result c.level_above-level.result c.place.new.kept.values.items c.place.new.kept.levels.items c.place.new.kept.queue.levels.items c.place.ensures.values c.place.ensures.levels (ap (λ (q : Queue). q.levels.items) c.place.ensures.queue) known
    (renewed-read (g.R.Rule.first_of c.args.rule.now 0) c.args.kept.now.values.items c.as_slice.result.now c.args.kept.now.levels.items g.R.Value.PartialEq.eq (g.R.Rule.first_of c.args.rule.now) (g.R.Rule.gives c.args.rule.now) c.args.store.now.network c.args.n.0 c.in-Some.gate.now c.of-value.result c.level_above-level.result c.as_slice.ensures.value at known c.of-value.ensures c.level_above-level.ensures)

pub returns-in-None-clause-building : goal.returns-in-None-clause-building
returns-in-None-clause-building g c =
    place-building g.R.Value.PartialEq.eq (g.R.Rule.first_of c.args.rule.now) (g.R.Rule.gives c.args.rule.now) (rule-lawful g.R.Value.PartialEq.eq (g.R.Rule.first_of c.args.rule.now) (g.R.Rule.gives c.args.rule.now) g.met.R.Value.Eq.laws (g.met.R.Rule.agrees c.args.rule.now)) c.args.store.now.network c.requires.stored.dag.acyclic c.args.kept.now.values.items c.args.kept.now.levels.items c.args.kept.now.queue.levels.items c.requires.building c.args.n.0 c.requires.live c.requires.todo c.first.result 0 c.place-in-None.new.kept.values.items c.place-in-None.new.kept.levels.items c.place-in-None.new.kept.queue.levels.items c.place-in-None.ensures.values c.place-in-None.ensures.levels (ap (λ (q : Queue). q.levels.items) c.place-in-None.ensures.queue) (λ m i. bare-fanin (entry_at c.args.store.now.network c.args.n.0) c.in-None.ensures m i)
    (first-is g.R.Value.PartialEq.eq (g.R.Rule.first_of c.args.rule.now) (g.R.Rule.gives c.args.rule.now) c.args.store.now.network c.args.n.0 c.first.result (answer (g.R.Rule.first_of c.args.rule.now 0) c.args.kept.now.values.items c.args.kept.now.levels.items) c.requires.live c.in-None.ensures c.first.ensures)
