use Rattle.std.proofs.Common.{◌≡◌, List, subst, sym, ap, ◌∙◌}
use Rattle.std.specs.FinMap.{get}
use Rattle.lnet_gates.specs.declared.signal.Signal.{Signal}
use Rattle.lnet_gates.specs.Gates.{GateValue}
use Rattle.lnet_model.specs.Along.{In, nodes_read, fanin_nodes}
use Rattle.lnet_store.proofs.KeptLemmas.{gate-at}
use Rattle.lnet_store.proofs.reaching.enter_fanins.Goals as goal

pub enter_all-requires-clause-known : goal.enter_all-requires-clause-known
enter_all-requires-clause-known c m i =
    let at = gate-at (get c.args.nodes.now.nodes c.args.n) c.in-Some.gate.now (sym c.in-Some.ensures) in
    let fanins : c.deref.result.now ≡ c.in-Some.gate.now.fanins = c.deref.ensures.0 ∙ ap (λ (g : GateValue). g.fanins) c.gate.view_is in
    c.requires.known m (subst (λ o. In m (fanin_nodes o)) (sym at) (subst (λ (ss : List Signal). In m (nodes_read ss)) fanins i))
