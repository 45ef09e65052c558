use Rattle.std.proofs.Common.{◌≡◌, ◌≤◌, ◌+◌, IsSome, List, length, subst, ap, sym, ◌∙◌, arith}
use Rattle.std.specs.Vec.{vec_capacity}
use Rattle.std.specs.FinMap.{get}
use Rattle.lnet_gates.specs.declared.signal.Signal.{Signal}
use Rattle.lnet_model.specs.Networks.{gate_in, IsGate, live_count}
use Rattle.lnet_model.specs.Along.{In, nodes_read}
use Rattle.lnet_model.specs.Changes.{with_entry}
use Rattle.lnet_model.specs.Dags.{IsStored}
use Rattle.lnet_store.specs.StoreValues.{StoreValue}
use Rattle.lnet_store.specs.Fields.{network_of, AreReferences}
use Rattle.lnet_store.specs.Linked.{AreLinked}
use Rattle.lnet_store.proofs.LinkLemmas.{gate-linked, linked-remove}
use Rattle.lnet_store.proofs.StoreLemmas.{entry-of, live-of}
use Rattle.lnet_gates.specs.Gates.{GateValue}
use Rattle.lnet_model.proofs.Stored.{stored-remove, count-remove, put_back}
use Rattle.lnet_store.proofs.ChangeLemmas.{network-without}
use Rattle.lnet_store.proofs.KeptLemmas.{gate-stands, gate-there, fanin-live, counts-known, room-kept, gate-six, kept-remove, gate-counted}
use Rattle.lnet_store.proofs.store.Store.remove.Goals as goal

pub take_gate-old-requires : goal.take_gate-old-requires
take_gate-old-requires c =
    let I = c.self.inside in
    let is : network_of c.self.inside.nodes.nodes c.self.inside.inputs.items c.self.inside.outputs.items ≡ c.args.self.now.network = ap (λ (h : StoreValue). h.network) c.self.view_is in
    let there : IsSome (gate_in (get I.nodes.nodes c.args.n.0)) = subst (λ o. IsSome (gate_in o))
    (sym (entry-of c.self.inside.nodes.nodes c.self.inside.inputs.items c.self.inside.outputs.items c.args.self.now.network is c.args.n.0))
    (gate-there c.args.self.now.network c.args.n.0 c.requires.gate) in
    there

pub uncount_all-requires-clause-known : goal.uncount_all-requires-clause-known
uncount_all-requires-clause-known c m i =
    let is : network_of c.self.inside.nodes.nodes c.self.inside.inputs.items c.self.inside.outputs.items ≡ c.args.self.now.network = ap (λ (h : StoreValue). h.network) c.self.view_is in
    let stored : IsStored c.args.self.now.network = subst IsStored is c.self.invariant.0 in
    let room = c.self.invariant.1 in
    let at = gate-stands c.self.inside.nodes.nodes c.self.inside.inputs.items c.self.inside.outputs.items c.args.self.now.network is c.args.n.0 c.take_gate-old.result c.take_gate-old.ensures.old in
    let fanins : c.deref.result.now ≡ c.take_gate-old.result.fanins = c.deref.ensures.0 ∙ ap (λ (g : GateValue). g.fanins) c.old.view_is in
    counts-known c.self.inside.nodes (vec_capacity c.self.inside.inputs) c.self.inside.inputs.items c.self.inside.outputs.items c.self.inside.counts.items c.self.inside.marks.items
    (vec_capacity c.self.inside.queue) c.args.self.now.network room is m
    (fanin-live c.args.self.now.network c.args.n.0 m c.take_gate-old.result stored at (subst (λ (ss : List Signal). In m (nodes_read ss)) fanins i))

pub uncount_all-requires-clause-counted : goal.uncount_all-requires-clause-counted
uncount_all-requires-clause-counted c =
    let I = c.self.inside in
    let is : network_of c.self.inside.nodes.nodes c.self.inside.inputs.items c.self.inside.outputs.items ≡ c.args.self.now.network = ap (λ (h : StoreValue). h.network) c.self.view_is in
    let refs : AreReferences c.self.inside.counts.items c.args.self.now.network = subst (AreReferences c.self.inside.counts.items) is c.self.invariant.2 in
    let at = gate-stands c.self.inside.nodes.nodes c.self.inside.inputs.items c.self.inside.outputs.items c.args.self.now.network is c.args.n.0 c.take_gate-old.result c.take_gate-old.ensures.old in
    let fanins : c.deref.result.now ≡ c.take_gate-old.result.fanins = c.deref.ensures.0 ∙ ap (λ (g : GateValue). g.fanins) c.old.view_is in
    gate-counted I.counts.items c.args.self.now.network refs c.args.n.0 c.take_gate-old.result c.deref.result.now fanins at

pub invariant_of-self : goal.invariant_of-self
invariant_of-self c =
    let I = c.self.inside in
    let is : network_of c.self.inside.nodes.nodes c.self.inside.inputs.items c.self.inside.outputs.items ≡ c.args.self.now.network = ap (λ (h : StoreValue). h.network) c.self.view_is in
    let stored : IsStored c.args.self.now.network = subst IsStored is c.self.invariant.0 in
    let refs : AreReferences c.self.inside.counts.items c.args.self.now.network = subst (AreReferences c.self.inside.counts.items) is c.self.invariant.2 in
    let room = c.self.invariant.1 in
    let at = gate-stands c.self.inside.nodes.nodes c.self.inside.inputs.items c.self.inside.outputs.items c.args.self.now.network is c.args.n.0 c.take_gate-old.result c.take_gate-old.ensures.old in
    let fanins : c.deref.result.now ≡ c.take_gate-old.result.fanins = c.deref.ensures.0 ∙ ap (λ (g : GateValue). g.fanins) c.old.view_is in
    let links : AreLinked c.self.inside.chains c.self.inside.nodes.room c.args.self.now.network = subst (AreLinked c.self.inside.chains c.self.inside.nodes.room) is c.self.invariant.3 in
    let unlinked : c.deref-2.result.now ≡ c.take_gate-old.result.fanins = c.deref-2.ensures.0 ∙ ap (λ (g : GateValue). g.fanins) c.old.view_is in
    let to = network-without I.nodes.nodes c.take_gate-old.new.self.nodes I.inputs.items I.outputs.items c.args.self.now.network is c.args.n.0 c.take_gate-old.ensures.nodes in (
      subst IsStored (sym to) (stored-remove c.args.self.now.network c.args.n.0 stored c.requires.gate c.requires.free),
      room-kept I.nodes c.take_gate-old.new.self (vec_capacity I.inputs) I.inputs.items I.counts.items c.uncount_all.new.counts.items I.marks.items
          (vec_capacity I.queue) room c.take_gate-old.ensures.fitting c.take_gate-old.ensures.room c.uncount_all.ensures.len,
      subst (AreReferences c.uncount_all.new.counts.items) (sym to)
          (kept-remove I.counts.items c.uncount_all.new.counts.items c.args.self.now.network refs c.args.n.0 c.take_gate-old.result c.deref.result.now fanins at c.uncount_all.ensures.less),
      subst (AreLinked c.unlink_all.new.chains c.take_gate-old.new.self.room) (sym to)
          (linked-remove c.self.inside.chains c.unlink_all.new.chains c.self.inside.nodes.room c.take_gate-old.new.self.room c.args.self.now.network c.args.n.0 c.take_gate-old.result
          c.deref-2.result.now unlinked (subst (λ (ss : List Signal). length ss ≤ 6) (sym unlinked) (gate-six c.take_gate-old.result (stored.dag.arities c.args.n.0 c.take_gate-old.result at))) at
          links c.unlink_all.ensures.places (let r = c.take_gate-old.ensures.room in let l = c.unlink_all.ensures.len in let f = links.fits in omega arith) c.unlink_all.ensures.named
          c.unlink_all.ensures.gone c.unlink_all.ensures.counted),
    )

pub returns-clause-network : goal.returns-clause-network
returns-clause-network c =
    let I = c.self.inside in
    let is : network_of c.self.inside.nodes.nodes c.self.inside.inputs.items c.self.inside.outputs.items ≡ c.args.self.now.network = ap (λ (h : StoreValue). h.network) c.self.view_is in
    network-without I.nodes.nodes c.take_gate-old.new.self.nodes I.inputs.items I.outputs.items c.args.self.now.network is c.args.n.0 c.take_gate-old.ensures.nodes

pub returns-clause-old : goal.returns-clause-old
returns-clause-old c =
    let is : network_of c.self.inside.nodes.nodes c.self.inside.inputs.items c.self.inside.outputs.items ≡ c.args.self.now.network = ap (λ (h : StoreValue). h.network) c.self.view_is in
    let at = gate-stands c.self.inside.nodes.nodes c.self.inside.inputs.items c.self.inside.outputs.items c.args.self.now.network is c.args.n.0 c.take_gate-old.result c.take_gate-old.ensures.old in
    at

pub returns-clause-was : goal.returns-clause-was
returns-clause-was c =
    let I = c.self.inside in
    let is : network_of c.self.inside.nodes.nodes c.self.inside.inputs.items c.self.inside.outputs.items ≡ c.args.self.now.network = ap (λ (h : StoreValue). h.network) c.self.view_is in
    let at = gate-stands c.self.inside.nodes.nodes c.self.inside.inputs.items c.self.inside.outputs.items c.args.self.now.network is c.args.n.0 c.take_gate-old.result c.take_gate-old.ensures.old in
    let to = network-without I.nodes.nodes c.take_gate-old.new.self.nodes I.inputs.items I.outputs.items c.args.self.now.network is c.args.n.0 c.take_gate-old.ensures.nodes in
    ap (λ M. with_entry M c.args.n.0 (IsGate c.take_gate-old.result)) to ∙ put_back c.args.self.now.network c.args.n.0 (IsGate c.take_gate-old.result) at

pub returns-clause-count : goal.returns-clause-count
returns-clause-count c =
    let I = c.self.inside in
    let is : network_of c.self.inside.nodes.nodes c.self.inside.inputs.items c.self.inside.outputs.items ≡ c.args.self.now.network = ap (λ (h : StoreValue). h.network) c.self.view_is in
    let stored : IsStored c.args.self.now.network = subst IsStored is c.self.invariant.0 in
    let to = network-without I.nodes.nodes c.take_gate-old.new.self.nodes I.inputs.items I.outputs.items c.args.self.now.network is c.args.n.0 c.take_gate-old.ensures.nodes in
    ap (λ M. live_count M + 1) to ∙ count-remove c.args.self.now.network c.args.n.0 stored c.requires.gate c.requires.free

pub returns-clause-spare : goal.returns-clause-spare
returns-clause-spare c =
    let I = c.self.inside in
    let is : network_of c.self.inside.nodes.nodes c.self.inside.inputs.items c.self.inside.outputs.items ≡ c.args.self.now.network = ap (λ (h : StoreValue). h.network) c.self.view_is in
    let stored : IsStored c.args.self.now.network = subst IsStored is c.self.invariant.0 in
    let to = network-without I.nodes.nodes c.take_gate-old.new.self.nodes I.inputs.items I.outputs.items c.args.self.now.network is c.args.n.0 c.take_gate-old.ensures.nodes in
    let less = count-remove c.args.self.now.network c.args.n.0 stored c.requires.gate c.requires.free in
    let old = live-of c.self.inside.nodes.nodes c.self.inside.inputs.items c.self.inside.outputs.items c.args.self.now.network is in
    let new = live-of c.take_gate-old.new.self.nodes I.inputs.items I.outputs.items _ to in
    let s = ap (λ (h : StoreValue). h.spare) c.self.view_is in
    let r = c.take_gate-old.ensures.room in
    omega arith

pub unlink_all-requires-clause-linked : goal.unlink_all-requires-clause-linked
unlink_all-requires-clause-linked c =
    let is : network_of c.self.inside.nodes.nodes c.self.inside.inputs.items c.self.inside.outputs.items ≡ c.args.self.now.network = ap (λ (h : StoreValue). h.network) c.self.view_is in
    let links : AreLinked c.self.inside.chains c.self.inside.nodes.room c.args.self.now.network = subst (AreLinked c.self.inside.chains c.self.inside.nodes.room) is c.self.invariant.3 in
    let stored : IsStored c.args.self.now.network = subst IsStored is c.self.invariant.0 in
    let at = gate-stands c.self.inside.nodes.nodes c.self.inside.inputs.items c.self.inside.outputs.items c.args.self.now.network is c.args.n.0 c.take_gate-old.result c.take_gate-old.ensures.old in
    let unlinked : c.deref-2.result.now ≡ c.take_gate-old.result.fanins = c.deref-2.ensures.0 ∙ ap (λ (g : GateValue). g.fanins) c.old.view_is in
    gate-linked c.self.inside.chains c.self.inside.nodes.room c.args.self.now.network c.args.n.0 c.take_gate-old.result c.deref-2.result.now unlinked
    (subst (λ (ss : List Signal). length ss ≤ 6) (sym unlinked) (gate-six c.take_gate-old.result (stored.dag.arities c.args.n.0 c.take_gate-old.result at))) links at
