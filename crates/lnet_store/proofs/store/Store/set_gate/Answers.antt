use Rattle.std.proofs.Common.{◌≡◌, ◌≤◌, IsSome, List, length, refl, subst, ap, sym, ◌∙◌, arith}
use Rattle.std.specs.Vec.{vec_capacity}
use Rattle.std.specs.FinMap.{get}
use Rattle.lnet_gates.specs.declared.signal.Signal.{Signal}
use Rattle.lnet_model.specs.Networks.{gate_in, IsGate, live_count}
use Rattle.lnet_model.specs.Along.{In, nodes_read}
use Rattle.lnet_model.specs.Changes.{with_entry}
use Rattle.lnet_model.specs.Dags.{IsStored}
use Rattle.lnet_store.specs.StoreValues.{StoreValue}
use Rattle.lnet_store.specs.Fields.{network_of, AreReferences}
use Rattle.lnet_store.specs.Linked.{AreLinked}
use Rattle.lnet_store.proofs.LinkLemmas.{linked-set}
use Rattle.lnet_store.proofs.LinkedNumbers.{can-relink}
use Rattle.lnet_store.proofs.StoreLemmas.{entry-of, live-of}
use Rattle.lnet_gates.specs.Gates.{GateValue}
use Rattle.lnet_model.proofs.Stored.{stored-set, count-set, set_back}
use Rattle.lnet_store.proofs.ChangeLemmas.{network-with}
use Rattle.lnet_store.proofs.KeptLemmas.{gate-stands, gate-there, fanin-live, counts-known, counts-fit, gate-six, room-kept, kept-set, gate-counted}
use Rattle.lnet_store.proofs.store.Store.set_gate.Goals as goal

pub count_all-requires-clause-known : goal.count_all-requires-clause-known
count_all-requires-clause-known c m i =
    let is : network_of c.self.inside.nodes.nodes c.self.inside.inputs.items c.self.inside.outputs.items ≡ c.args.self.now.network = ap (λ (h : StoreValue). h.network) c.self.view_is in
    let room = c.self.invariant.1 in
    let fanins : c.deref.result.now ≡ c.args.gate.fanins = c.deref.ensures.0 ∙ ap (λ (g : GateValue). g.fanins) c.gate.view_is in
    counts-known c.self.inside.nodes (vec_capacity c.self.inside.inputs) c.self.inside.inputs.items c.self.inside.outputs.items c.self.inside.counts.items c.self.inside.marks.items
    (vec_capacity c.self.inside.queue) c.args.self.now.network room is m (c.requires.live m (subst (λ (ss : List Signal). In m (nodes_read ss)) fanins i))

pub count_all-requires-clause-fits : goal.count_all-requires-clause-fits
count_all-requires-clause-fits c =
    let I = c.self.inside in
    let is : network_of c.self.inside.nodes.nodes c.self.inside.inputs.items c.self.inside.outputs.items ≡ c.args.self.now.network = ap (λ (h : StoreValue). h.network) c.self.view_is in
    let stored : IsStored c.args.self.now.network = subst IsStored is c.self.invariant.0 in
    let refs : AreReferences c.self.inside.counts.items c.args.self.now.network = subst (AreReferences c.self.inside.counts.items) is c.self.invariant.2 in
    let fanins : c.deref.result.now ≡ c.args.gate.fanins = c.deref.ensures.0 ∙ ap (λ (g : GateValue). g.fanins) c.gate.view_is in
    counts-fit I.counts.items c.args.self.now.network refs stored c.deref.result.now (subst (λ (ss : List Signal). length ss ≤ 6) (sym fanins) (gate-six c.args.gate c.requires.arity))

pub set_gate-old-requires : goal.set_gate-old-requires
set_gate-old-requires c =
    let I = c.self.inside in
    let is : network_of c.self.inside.nodes.nodes c.self.inside.inputs.items c.self.inside.outputs.items ≡ c.args.self.now.network = ap (λ (h : StoreValue). h.network) c.self.view_is in
    let there : IsSome (gate_in (get I.nodes.nodes c.args.n.0)) = subst (λ o. IsSome (gate_in o))
    (sym (entry-of c.self.inside.nodes.nodes c.self.inside.inputs.items c.self.inside.outputs.items c.args.self.now.network is c.args.n.0))
    (gate-there c.args.self.now.network c.args.n.0 c.requires.gate) in
    there

pub uncount_all-requires-clause-known : goal.uncount_all-requires-clause-known
uncount_all-requires-clause-known c m i =
    let is : network_of c.self.inside.nodes.nodes c.self.inside.inputs.items c.self.inside.outputs.items ≡ c.args.self.now.network = ap (λ (h : StoreValue). h.network) c.self.view_is in
    let stored : IsStored c.args.self.now.network = subst IsStored is c.self.invariant.0 in
    let room = c.self.invariant.1 in
    let at = gate-stands c.self.inside.nodes.nodes c.self.inside.inputs.items c.self.inside.outputs.items c.args.self.now.network is c.args.n.0 c.set_gate-old.result c.set_gate-old.ensures.old in
    let olds : c.deref-3.result.now ≡ c.set_gate-old.result.fanins = c.deref-3.ensures.0 ∙ ap (λ (g : GateValue). g.fanins) c.old.view_is in
    let lt = counts-known c.self.inside.nodes (vec_capacity c.self.inside.inputs) c.self.inside.inputs.items c.self.inside.outputs.items c.self.inside.counts.items c.self.inside.marks.items
    (vec_capacity c.self.inside.queue) c.args.self.now.network room is m
    (fanin-live c.args.self.now.network c.args.n.0 m c.set_gate-old.result stored at (subst (λ (ss : List Signal). In m (nodes_read ss)) olds i)) in
    let len = c.count_all.ensures.len in
    omega arith

pub uncount_all-requires-clause-counted : goal.uncount_all-requires-clause-counted
uncount_all-requires-clause-counted c m =
    let I = c.self.inside in
    let is : network_of c.self.inside.nodes.nodes c.self.inside.inputs.items c.self.inside.outputs.items ≡ c.args.self.now.network = ap (λ (h : StoreValue). h.network) c.self.view_is in
    let refs : AreReferences c.self.inside.counts.items c.args.self.now.network = subst (AreReferences c.self.inside.counts.items) is c.self.invariant.2 in
    let at = gate-stands c.self.inside.nodes.nodes c.self.inside.inputs.items c.self.inside.outputs.items c.args.self.now.network is c.args.n.0 c.set_gate-old.result c.set_gate-old.ensures.old in
    let olds : c.deref-3.result.now ≡ c.set_gate-old.result.fanins = c.deref-3.ensures.0 ∙ ap (λ (g : GateValue). g.fanins) c.old.view_is in
    let le = gate-counted I.counts.items c.args.self.now.network refs c.args.n.0 c.set_gate-old.result c.deref-3.result.now olds at m in
    let more = c.count_all.ensures.more m in
    omega arith

pub invariant_of-self : goal.invariant_of-self
invariant_of-self c =
    let I = c.self.inside in
    let is : network_of c.self.inside.nodes.nodes c.self.inside.inputs.items c.self.inside.outputs.items ≡ c.args.self.now.network = ap (λ (h : StoreValue). h.network) c.self.view_is in
    let stored : IsStored c.args.self.now.network = subst IsStored is c.self.invariant.0 in
    let refs : AreReferences c.self.inside.counts.items c.args.self.now.network = subst (AreReferences c.self.inside.counts.items) is c.self.invariant.2 in
    let room = c.self.invariant.1 in
    let fanins : c.deref.result.now ≡ c.args.gate.fanins = c.deref.ensures.0 ∙ ap (λ (g : GateValue). g.fanins) c.gate.view_is in
    let at = gate-stands c.self.inside.nodes.nodes c.self.inside.inputs.items c.self.inside.outputs.items c.args.self.now.network is c.args.n.0 c.set_gate-old.result c.set_gate-old.ensures.old in
    let olds : c.deref-3.result.now ≡ c.set_gate-old.result.fanins = c.deref-3.ensures.0 ∙ ap (λ (g : GateValue). g.fanins) c.old.view_is in
    let links : AreLinked c.self.inside.chains c.self.inside.nodes.room c.args.self.now.network = subst (AreLinked c.self.inside.chains c.self.inside.nodes.room) is c.self.invariant.3 in
    let linked : c.deref-2.result.now ≡ c.args.gate.fanins = c.deref-2.ensures.0 ∙ ap (λ (g : GateValue). g.fanins) c.gate.view_is in
    let r = c.relink.ensures.relinked c.set_gate-old.result c.set_gate-old.ensures.old in
    let to = network-with I.nodes.nodes c.set_gate-old.new.self.nodes I.inputs.items I.outputs.items c.args.self.now.network is c.args.n.0 (IsGate c.args.gate) c.set_gate-old.ensures.nodes in (
      subst IsStored (sym to) (stored-set c.args.self.now.network c.args.n.0 c.args.gate stored c.requires.gate c.requires.live c.requires.arity c.requires.free),
      room-kept I.nodes c.set_gate-old.new.self (vec_capacity I.inputs) I.inputs.items I.counts.items c.uncount_all.new.counts.items I.marks.items
          (vec_capacity I.queue) room c.set_gate-old.ensures.fitting c.set_gate-old.ensures.room (c.uncount_all.ensures.len ∙ c.count_all.ensures.len),
      subst (AreReferences c.uncount_all.new.counts.items) (sym to)
          (kept-set I.counts.items c.count_all.new.counts.items c.uncount_all.new.counts.items c.args.self.now.network refs c.args.n.0 c.args.gate c.set_gate-old.result c.deref.result.now
          c.deref-3.result.now fanins olds at c.count_all.ensures.more c.uncount_all.ensures.less),
      subst (AreLinked c.relink.new.chains c.set_gate-old.new.self.room) (sym to)
          (linked-set c.self.inside.chains r.between c.relink.new.chains c.self.inside.nodes.room c.set_gate-old.new.self.room c.args.self.now.network c.args.n.0 c.args.gate c.set_gate-old.result
          c.deref-2.result.now c.set_gate-old.result.fanins linked refl (subst (λ (ss : List Signal). length ss ≤ 6) (sym linked) (gate-six c.args.gate c.requires.arity))
          (gate-six c.set_gate-old.result (stored.dag.arities c.args.n.0 c.set_gate-old.result at)) at links c.relink.ensures.places
          (let q = c.set_gate-old.ensures.room in let l = c.relink.ensures.len in let f = links.fits in omega arith) r.taken r.gone r.fewer r.named r.more),
    )

pub returns-clause-network : goal.returns-clause-network
returns-clause-network c =
    let I = c.self.inside in
    let is : network_of c.self.inside.nodes.nodes c.self.inside.inputs.items c.self.inside.outputs.items ≡ c.args.self.now.network = ap (λ (h : StoreValue). h.network) c.self.view_is in
    network-with I.nodes.nodes c.set_gate-old.new.self.nodes I.inputs.items I.outputs.items c.args.self.now.network is c.args.n.0 (IsGate c.args.gate) c.set_gate-old.ensures.nodes

pub returns-clause-old : goal.returns-clause-old
returns-clause-old c =
    let is : network_of c.self.inside.nodes.nodes c.self.inside.inputs.items c.self.inside.outputs.items ≡ c.args.self.now.network = ap (λ (h : StoreValue). h.network) c.self.view_is in
    let at = gate-stands c.self.inside.nodes.nodes c.self.inside.inputs.items c.self.inside.outputs.items c.args.self.now.network is c.args.n.0 c.set_gate-old.result c.set_gate-old.ensures.old in
    at

pub returns-clause-was : goal.returns-clause-was
returns-clause-was c =
    let I = c.self.inside in
    let is : network_of c.self.inside.nodes.nodes c.self.inside.inputs.items c.self.inside.outputs.items ≡ c.args.self.now.network = ap (λ (h : StoreValue). h.network) c.self.view_is in
    let at = gate-stands c.self.inside.nodes.nodes c.self.inside.inputs.items c.self.inside.outputs.items c.args.self.now.network is c.args.n.0 c.set_gate-old.result c.set_gate-old.ensures.old in
    let to = network-with I.nodes.nodes c.set_gate-old.new.self.nodes I.inputs.items I.outputs.items c.args.self.now.network is c.args.n.0 (IsGate c.args.gate) c.set_gate-old.ensures.nodes in
    ap (λ M. with_entry M c.args.n.0 (IsGate c.set_gate-old.result)) to ∙ set_back c.args.self.now.network c.args.n.0 (IsGate c.args.gate) (IsGate c.set_gate-old.result) at

pub returns-clause-count : goal.returns-clause-count
returns-clause-count c =
    let I = c.self.inside in
    let is : network_of c.self.inside.nodes.nodes c.self.inside.inputs.items c.self.inside.outputs.items ≡ c.args.self.now.network = ap (λ (h : StoreValue). h.network) c.self.view_is in
    let stored : IsStored c.args.self.now.network = subst IsStored is c.self.invariant.0 in
    let to = network-with I.nodes.nodes c.set_gate-old.new.self.nodes I.inputs.items I.outputs.items c.args.self.now.network is c.args.n.0 (IsGate c.args.gate) c.set_gate-old.ensures.nodes in
    ap live_count to ∙ count-set c.args.self.now.network c.args.n.0 c.args.gate stored c.requires.gate c.requires.live c.requires.arity c.requires.free

pub returns-clause-spare : goal.returns-clause-spare
returns-clause-spare c =
    let I = c.self.inside in
    let is : network_of c.self.inside.nodes.nodes c.self.inside.inputs.items c.self.inside.outputs.items ≡ c.args.self.now.network = ap (λ (h : StoreValue). h.network) c.self.view_is in
    let stored : IsStored c.args.self.now.network = subst IsStored is c.self.invariant.0 in
    let to = network-with I.nodes.nodes c.set_gate-old.new.self.nodes I.inputs.items I.outputs.items c.args.self.now.network is c.args.n.0 (IsGate c.args.gate) c.set_gate-old.ensures.nodes in
    let same = count-set c.args.self.now.network c.args.n.0 c.args.gate stored c.requires.gate c.requires.live c.requires.arity c.requires.free in
    let old = live-of c.self.inside.nodes.nodes c.self.inside.inputs.items c.self.inside.outputs.items c.args.self.now.network is in
    let new = live-of c.set_gate-old.new.self.nodes I.inputs.items I.outputs.items _ to in
    let s = ap (λ (h : StoreValue). h.spare) c.self.view_is in
    let r = c.set_gate-old.ensures.room in
    omega arith

pub relink-requires-clause-ready : goal.relink-requires-clause-ready
relink-requires-clause-ready c =
    let is : network_of c.self.inside.nodes.nodes c.self.inside.inputs.items c.self.inside.outputs.items ≡ c.args.self.now.network = ap (λ (h : StoreValue). h.network) c.self.view_is in
    let stored : IsStored c.args.self.now.network = subst IsStored is c.self.invariant.0 in
    let links : AreLinked c.self.inside.chains c.self.inside.nodes.room c.args.self.now.network = subst (AreLinked c.self.inside.chains c.self.inside.nodes.room) is c.self.invariant.3 in
    can-relink c.self.inside.nodes c.self.inside.inputs.items c.self.inside.outputs.items c.self.inside.chains c.args.self.now.network is links
    c.self.invariant.1.fitting stored c.args.n.0 c.deref-2.result.now c.args.gate.fanins c.requires.gate (c.deref-2.ensures.0 ∙ ap (λ (g : GateValue). g.fanins) c.gate.view_is) c.requires.live
