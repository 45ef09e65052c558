use Rattle.std.proofs.Common.{List, sym, subst, ap, ◌∙◌, map}
use Rattle.lnet_gates.specs.declared.signal.Signal.{Signal}
use Rattle.lnet_model.specs.Along.{nodes_read}
use Rattle.lnet_model.specs.Changes.{AreLive}
use Rattle.lnet_edge.specs.CircuitLists.{equation_view}
use Rattle.lnet_build.specs.Signals.{read_in}
use Rattle.lnet_build.proofs.StandLemmas.{operands-live, equation-built}
use Rattle.lnet_build.proofs.equations.build_equation.Goals as goal

pub build_rule-requires-clause-live : goal.build_rule-requires-clause-live
build_rule-requires-clause-live g c =
    subst (λ (ss : List Signal). AreLive c.args.net.now.core.network (nodes_read ss)) (sym (c.deref.ensures.value ∙ c.in-Ok.ensures ∙ ap (map (read_in c.args.signals.now)) c.as_slice.ensures))
    (operands-live c.args.net.now.core.network c.args.signals.now c.args.equation.now.operands.items c.live_count-live.ensures.stored.whole c.requires.live)

pub returns-in-Ok-insert-clause-built : goal.returns-in-Ok-insert-clause-built
returns-in-Ok-insert-clause-built g c =
    equation-built g.G.Gates.KIND c.args.net.now.core.network c.build_rule.new.net.core.network c.args.signals.now c.insert.new.self (equation_view c.args.equation.now) c.deref.result.now c.in_ok-signal.signal
    (c.deref.ensures.value ∙ c.in-Ok.ensures ∙ ap (map (read_in c.args.signals.now)) c.as_slice.ensures)
    c.in_ok-signal.ensures.built c.in-Ok-insert.ensures.updates
