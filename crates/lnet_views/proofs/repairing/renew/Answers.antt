use Rattle.std.proofs.Common.{arith, sym, subst, ◌<◌, ◌≡◌, length, true}
use Rattle.lnet_model.specs.Networks.{entry_at}
use Rattle.lnet_model.specs.Along.{once}
use Rattle.lnet_views.specs.Repair.{pair_eq, pair_step}
use Rattle.lnet_views.specs.Rules.{rule_step}
use Rattle.lnet_views.specs.Keeping.{answer}
use Rattle.lnet_views.proofs.Renewal.{gate-is, read-inside, read-known, renewed-read, renewed-here, gate-live}
use Rattle.lnet_views.proofs.repairing.renew.Goals as goal

pub of-value-requires : goal.of-value-requires
of-value-requires g c =
    let N = c.args.look.now.network in
    let at = gate-is (entry_at c.args.look.now.network c.args.n.0) c.in-Some.gate.now c.in-Some.ensures.gate in
    record { arity = c.requires.dag.arities c.args.n.0 c.in-Some.gate.now at; inside = λ m i. subst (λ z. m < length z) (sym c.as_slice.ensures.value) (read-inside _ _ _ _ c.args.n.0 c.in-Some.gate.now c.requires.dag.closed c.requires.sound at m i) }

pub returns-clause-is : goal.returns-clause-is
returns-clause-is g c =
    let at = gate-is (entry_at c.args.look.now.network c.args.n.0) c.in-Some.gate.now c.in-Some.ensures.gate in
    let none = g.R.Rule.first_of c.args.rule.now 0 in
    let inside = c.requires.sound.room c.args.n.0 (gate-live _ c.requires.gate) in
    let long = c.requires.sound.levels_len in
    let inside2 : c.args.n.0 < length c.args.kept.now.levels.items = omega arith in
    let here = renewed-here (g.R.Rule.first_of c.args.rule.now 0) c.args.kept.now.values.items c.args.kept.now.levels.items c.args.n.0 _ _ _ _ c.place.ensures.values c.place.ensures.levels inside inside2 in
    let is = renewed-read (g.R.Rule.first_of c.args.rule.now 0) c.args.kept.now.values.items c.as_slice.result.now c.args.kept.now.levels.items g.R.Value.PartialEq.eq (g.R.Rule.first_of c.args.rule.now) (g.R.Rule.gives c.args.rule.now) c.args.look.now.network c.args.n.0 c.in-Some.gate.now c.of-value.result c.level_above-level.result c.as_slice.ensures.value at (read-known _ _ _ _ c.args.n.0 c.requires.dag.closed c.requires.sound) c.of-value.ensures c.level_above-level.ensures in
    subst (λ z. pair_eq g.R.Value.PartialEq.eq z (once (entry_at c.args.look.now.network) (pair_step (rule_step (g.R.Rule.first_of c.args.rule.now) (g.R.Rule.gives c.args.rule.now))) (g.R.Rule.first_of c.args.rule.now 0, 0) (answer (g.R.Rule.first_of c.args.rule.now 0) c.args.kept.now.values.items c.args.kept.now.levels.items) c.args.n.0) ≡ true) (sym here) is
