use Rattle.std.proofs.Common.{◌≡◌, List, sym, subst, ap, ◌∙◌}
use Rattle.std.specs.Prelude.{◌⊎◌, ◌↔◌}
use Rattle.lnet_gates.specs.declared.signal.Signal.{Signal}
use Rattle.lnet_gates.specs.Gates.{GateValue}
use Rattle.lnet_model.specs.Networks.{entry_at}
use Rattle.lnet_model.specs.Along.{In, nodes_read}
use Rattle.lnet_chains.specs.Lists.{Within, list_of}
use Rattle.lnet_store.specs.Linked.{IsSlotOf}
use Rattle.lnet_fanouts.specs.FanoutViews.{slots_at}
use Rattle.lnet_fanouts.proofs.Events.{gate-slots}
use Rattle.lnet_fanouts.proofs.linking.link.Goals as goal

pub place_all-requires-clause-known : goal.place_all-requires-clause-known
place_all-requires-clause-known c m i =
    let fanins : slots_at (entry_at c.args.look.now.network) c.args.n.0 ≡ c.deref.result.now =
    gate-slots (entry_at c.args.look.now.network c.args.n.0) c.in-Some.gate.now (sym c.in-Some.ensures.gate) ∙ sym (c.deref.ensures.0 ∙ ap (λ (g : GateValue). g.fanins) c.gate.view_is) in
    c.requires.known m (subst (λ (ss : List Signal). In m (nodes_read ss)) (sym fanins) i)

pub returns-in-Some-clause-named : goal.returns-in-Some-clause-named
returns-in-Some-clause-named c m p =
    let fanins : slots_at (entry_at c.args.look.now.network) c.args.n.0 ≡ c.deref.result.now =
    gate-slots (entry_at c.args.look.now.network c.args.n.0) c.in-Some.gate.now (sym c.in-Some.ensures.gate) ∙ sym (c.deref.ensures.0 ∙ ap (λ (g : GateValue). g.fanins) c.gate.view_is) in
    subst (λ (ss : List Signal). Within p (list_of c.place_all.new.pool m) ↔ (Within p (list_of c.args.pool.now m) ⊎ IsSlotOf c.args.n.0 ss m p)) (sym fanins) (c.place_all.ensures.named m p)
