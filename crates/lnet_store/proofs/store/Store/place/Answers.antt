use Rattle.std.proofs.Common.{◌≡◌, ◌≤◌, IsSome, List, length, subst, ap, sym, ◌∙◌, arith}
use Rattle.std.specs.Vec.{vec_capacity}
use Rattle.lnet_gates.specs.declared.signal.Signal.{Signal}
use Rattle.lnet_model.specs.Networks.{IsGate}
use Rattle.lnet_model.specs.Along.{In, nodes_read}
use Rattle.lnet_model.specs.Dags.{IsStored}
use Rattle.lnet_store.specs.StoreValues.{StoreValue}
use Rattle.lnet_store.specs.Fields.{network_of, AreReferences}
use Rattle.lnet_store.specs.Linked.{AreLinked}
use Rattle.lnet_store.proofs.LinkLemmas.{none-linked, linked-add}
use Rattle.lnet_store.proofs.LinkedNumbers.{chains-known, chains-free}
use Rattle.lnet_store.proofs.StoreLemmas.{entry-of, live-of}
use Rattle.lnet_gates.specs.Gates.{GateValue}
use Rattle.lnet_model.proofs.Stored.{stored-add, count-add}
use Rattle.lnet_store.proofs.ChangeLemmas.{network-with}
use Rattle.lnet_store.proofs.KeptLemmas.{counts-known, counts-fit, gate-six, room-kept, kept-add}
use Rattle.lnet_store.proofs.store.Store.place.Goals as goal

pub count_all-requires-clause-known : goal.count_all-requires-clause-known
count_all-requires-clause-known c m i =
    let is : network_of c.self.inside.nodes.nodes c.self.inside.inputs.items c.self.inside.outputs.items ≡ c.args.self.now.network = ap (λ (h : StoreValue). h.network) c.self.view_is in
    let room = c.self.invariant.1 in
    let fanins : c.deref.result.now ≡ c.args.gate.fanins = c.deref.ensures.0 ∙ ap (λ (g : GateValue). g.fanins) c.gate.view_is in
    counts-known c.self.inside.nodes (vec_capacity c.self.inside.inputs) c.self.inside.inputs.items c.self.inside.outputs.items c.self.inside.counts.items c.self.inside.marks.items
    (vec_capacity c.self.inside.queue) c.args.self.now.network room is m (c.requires.live m (subst (λ (ss : List Signal). In m (nodes_read ss)) fanins i))

pub count_all-requires-clause-fits : goal.count_all-requires-clause-fits
count_all-requires-clause-fits c =
    let I = c.self.inside in
    let is : network_of c.self.inside.nodes.nodes c.self.inside.inputs.items c.self.inside.outputs.items ≡ c.args.self.now.network = ap (λ (h : StoreValue). h.network) c.self.view_is in
    let stored : IsStored c.args.self.now.network = subst IsStored is c.self.invariant.0 in
    let refs : AreReferences c.self.inside.counts.items c.args.self.now.network = subst (AreReferences c.self.inside.counts.items) is c.self.invariant.2 in
    let fanins : c.deref.result.now ≡ c.args.gate.fanins = c.deref.ensures.0 ∙ ap (λ (g : GateValue). g.fanins) c.gate.view_is in
    counts-fit I.counts.items c.args.self.now.network refs stored c.deref.result.now (subst (λ (ss : List Signal). length ss ≤ 6) (sym fanins) (gate-six c.args.gate c.requires.arity))

pub fill-requires-clause-free : goal.fill-requires-clause-free
fill-requires-clause-free c = entry-of c.self.inside.nodes.nodes c.self.inside.inputs.items c.self.inside.outputs.items c.args.self.now.network
    (ap (λ (h : StoreValue). h.network) c.self.view_is) c.args.n.0 ∙ c.requires.number.free

pub fill-requires-clause-least : goal.fill-requires-clause-least
fill-requires-clause-least c m lt = subst IsSome
    (sym (entry-of c.self.inside.nodes.nodes c.self.inside.inputs.items c.self.inside.outputs.items c.args.self.now.network (ap (λ (h : StoreValue). h.network) c.self.view_is) m))
    (c.requires.number.least m lt)

pub invariant_of-self : goal.invariant_of-self
invariant_of-self c =
    let I = c.self.inside in
    let is : network_of c.self.inside.nodes.nodes c.self.inside.inputs.items c.self.inside.outputs.items ≡ c.args.self.now.network = ap (λ (h : StoreValue). h.network) c.self.view_is in
    let stored : IsStored c.args.self.now.network = subst IsStored is c.self.invariant.0 in
    let refs : AreReferences c.self.inside.counts.items c.args.self.now.network = subst (AreReferences c.self.inside.counts.items) is c.self.invariant.2 in
    let room = c.self.invariant.1 in
    let fanins : c.deref.result.now ≡ c.args.gate.fanins = c.deref.ensures.0 ∙ ap (λ (g : GateValue). g.fanins) c.gate.view_is in
    let links : AreLinked c.self.inside.chains c.self.inside.nodes.room c.args.self.now.network = subst (AreLinked c.self.inside.chains c.self.inside.nodes.room) is c.self.invariant.3 in
    let linked : c.deref-2.result.now ≡ c.args.gate.fanins = c.deref-2.ensures.0 ∙ ap (λ (g : GateValue). g.fanins) c.gate.view_is in
    let to = network-with I.nodes.nodes c.fill.new.self.nodes I.inputs.items I.outputs.items c.args.self.now.network is c.args.n.0 (IsGate c.args.gate) c.fill.ensures.nodes in (
      subst IsStored (sym to) (stored-add c.args.self.now.network c.args.n.0 c.args.gate stored c.requires.number.free c.requires.live c.requires.arity c.fill.ensures.within),
      room-kept I.nodes c.fill.new.self (vec_capacity I.inputs) I.inputs.items I.counts.items c.count_all.new.counts.items I.marks.items
          (vec_capacity I.queue) room c.fill.ensures.fitting c.fill.ensures.room c.count_all.ensures.len,
      subst (AreReferences c.count_all.new.counts.items) (sym to)
          (kept-add I.counts.items c.count_all.new.counts.items c.args.self.now.network refs c.args.n.0 c.args.gate c.deref.result.now fanins c.requires.number.free c.count_all.ensures.more),
      subst (AreLinked c.link_all.new.chains c.fill.new.self.room) (sym to)
          (linked-add c.self.inside.chains c.link_all.new.chains c.self.inside.nodes.room c.fill.new.self.room c.args.self.now.network c.args.n.0 c.args.gate c.deref-2.result.now linked
          (subst (λ (ss : List Signal). length ss ≤ 6) (sym linked) (gate-six c.args.gate c.requires.arity)) c.requires.number.free links c.link_all.ensures.places
          (let r = c.fill.ensures.room in let l = c.link_all.ensures.len in let f = links.fits in omega arith) c.link_all.ensures.named c.link_all.ensures.counted),
    )

pub returns-clause-network : goal.returns-clause-network
returns-clause-network c =
    let I = c.self.inside in
    let is : network_of c.self.inside.nodes.nodes c.self.inside.inputs.items c.self.inside.outputs.items ≡ c.args.self.now.network = ap (λ (h : StoreValue). h.network) c.self.view_is in
    network-with I.nodes.nodes c.fill.new.self.nodes I.inputs.items I.outputs.items c.args.self.now.network is c.args.n.0 (IsGate c.args.gate) c.fill.ensures.nodes

pub returns-clause-spare : goal.returns-clause-spare
returns-clause-spare c =
    let I = c.self.inside in
    let is : network_of c.self.inside.nodes.nodes c.self.inside.inputs.items c.self.inside.outputs.items ≡ c.args.self.now.network = ap (λ (h : StoreValue). h.network) c.self.view_is in
    let stored : IsStored c.args.self.now.network = subst IsStored is c.self.invariant.0 in
    let to = network-with I.nodes.nodes c.fill.new.self.nodes I.inputs.items I.outputs.items c.args.self.now.network is c.args.n.0 (IsGate c.args.gate) c.fill.ensures.nodes in
    let more = count-add c.args.self.now.network c.args.n.0 c.args.gate stored c.requires.number.free c.requires.live c.requires.arity c.fill.ensures.within in
    let old = live-of c.self.inside.nodes.nodes c.self.inside.inputs.items c.self.inside.outputs.items c.args.self.now.network is in
    let new = live-of c.fill.new.self.nodes I.inputs.items I.outputs.items _ to in
    let s = ap (λ (h : StoreValue). h.spare) c.self.view_is in
    let r = c.fill.ensures.room in
    let some = c.requires.spare in
    omega arith

pub link_all-requires-clause-known : goal.link_all-requires-clause-known
link_all-requires-clause-known c m i =
    let is : network_of c.self.inside.nodes.nodes c.self.inside.inputs.items c.self.inside.outputs.items ≡ c.args.self.now.network = ap (λ (h : StoreValue). h.network) c.self.view_is in
    let links : AreLinked c.self.inside.chains c.self.inside.nodes.room c.args.self.now.network = subst (AreLinked c.self.inside.chains c.self.inside.nodes.room) is c.self.invariant.3 in
    let linked : c.deref-2.result.now ≡ c.args.gate.fanins = c.deref-2.ensures.0 ∙ ap (λ (g : GateValue). g.fanins) c.gate.view_is in
    chains-known c.self.inside.nodes c.self.inside.inputs.items c.self.inside.outputs.items c.self.inside.chains c.args.self.now.network is links c.self.invariant.1.fitting m
    (c.requires.live m (subst (λ (ss : List Signal). In m (nodes_read ss)) linked i))

pub link_all-requires-clause-within : goal.link_all-requires-clause-within
link_all-requires-clause-within c =
    let is : network_of c.self.inside.nodes.nodes c.self.inside.inputs.items c.self.inside.outputs.items ≡ c.args.self.now.network = ap (λ (h : StoreValue). h.network) c.self.view_is in
    let links : AreLinked c.self.inside.chains c.self.inside.nodes.room c.args.self.now.network = subst (AreLinked c.self.inside.chains c.self.inside.nodes.room) is c.self.invariant.3 in
    let s = ap (λ (h : StoreValue). h.spare) c.self.view_is in
    let some = c.requires.spare in
    chains-free c.self.inside.nodes c.self.inside.inputs.items c.self.inside.outputs.items c.self.inside.chains c.args.self.now.network is links c.args.n.0 c.requires.number.least (omega arith)

pub link_all-requires-clause-absent : goal.link_all-requires-clause-absent
link_all-requires-clause-absent c =
    let is : network_of c.self.inside.nodes.nodes c.self.inside.inputs.items c.self.inside.outputs.items ≡ c.args.self.now.network = ap (λ (h : StoreValue). h.network) c.self.view_is in
    let links : AreLinked c.self.inside.chains c.self.inside.nodes.room c.args.self.now.network = subst (AreLinked c.self.inside.chains c.self.inside.nodes.room) is c.self.invariant.3 in
    none-linked c.self.inside.chains c.self.inside.nodes.room c.args.self.now.network c.args.n.0 links c.requires.number.free
