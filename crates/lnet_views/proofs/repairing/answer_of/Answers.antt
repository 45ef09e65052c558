use Rattle.std.proofs.Common.{sym, subst, ◌<◌, length}
use Rattle.lnet_model.specs.Networks.{entry_at}
use Rattle.lnet_views.specs.Keeping.{answer}
use Rattle.lnet_views.proofs.Renewal.{gate-is, fanin-live, renewed-read, first-is}
use Rattle.lnet_views.proofs.repairing.answer_of.Goals as goal

pub of-value-requires : goal.of-value-requires
of-value-requires g c =
    let at = gate-is (entry_at c.args.look.now.network c.args.n.0) c.in-Some.gate.now c.in-Some.ensures.gate in
    record { arity = c.requires.dag.arities c.args.n.0 c.in-Some.gate.now at; inside = λ m i. subst (λ z. m < length z) (sym c.as_slice.ensures.value) (c.requires.room m (fanin-live c.args.look.now.network c.args.n.0 c.in-Some.gate.now c.requires.dag.closed at m i)) }

pub returns-in-Some-clause-is : goal.returns-in-Some-clause-is
returns-in-Some-clause-is g c =
    let at = gate-is (entry_at c.args.look.now.network c.args.n.0) c.in-Some.gate.now c.in-Some.ensures.gate in
    renewed-read (g.R.Rule.first_of c.args.rule.now 0) c.args.kept.now.values.items c.as_slice.result.now c.args.kept.now.levels.items g.R.Value.PartialEq.eq (g.R.Rule.first_of c.args.rule.now) (g.R.Rule.gives c.args.rule.now) c.args.look.now.network c.args.n.0 c.in-Some.gate.now c.of-value.result c.level_above-level.result c.as_slice.ensures.value at c.requires.known c.of-value.ensures c.level_above-level.ensures

pub returns-in-None-clause-is : goal.returns-in-None-clause-is
returns-in-None-clause-is g c =
    first-is g.R.Value.PartialEq.eq (g.R.Rule.first_of c.args.rule.now) (g.R.Rule.gives c.args.rule.now) c.args.look.now.network c.args.n.0 c.first.result (answer (g.R.Rule.first_of c.args.rule.now 0) c.args.kept.now.values.items c.args.kept.now.levels.items) c.requires.live c.in-None.ensures.gate c.first.ensures
