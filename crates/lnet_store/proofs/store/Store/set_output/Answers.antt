use Rattle.std.proofs.Common.{inl, inr, ◌≡◌, ◌<◌, List, [], ◌∷◌, get_or, length, subst, ap, sym, refl, ◌∙◌, arith}
use Rattle.std.specs.Vec.{vec_capacity}
use Rattle.lnet_gates.specs.declared.signal.Signal.{Signal}
use Rattle.lnet_model.specs.Networks.{IsLive}
use Rattle.lnet_model.specs.Dags.{IsStored}
use Rattle.lnet_store.specs.StoreValues.{StoreValue}
use Rattle.lnet_store.specs.Fields.{network_of, AreReferences}
use Rattle.lnet_store.specs.Linked.{AreLinked}
use Rattle.lnet_store.proofs.LinkLemmas.{linked-output}
use Rattle.lnet_store.proofs.StoreLemmas.{outputs-of}
use Rattle.lnet_store.proofs.ChangeLemmas.{network-output, stored-output}
use Rattle.lnet_store.proofs.KeptLemmas.{counts-known, counts-fit, room-kept, kept-output, output-counted}
use Rattle.lnet_store.proofs.store.Store.set_output.Goals as goal
use Rattle.lnet_store.proofs.StoreLemmas.{read-place}

pub index-old-requires : goal.index-old-requires
index-old-requires c =
    let is : network_of c.self.inside.nodes.nodes c.self.inside.inputs.items c.self.inside.outputs.items ≡ c.args.self.now.network = ap (λ (h : StoreValue). h.network) c.self.view_is in
    let same = ap length (outputs-of c.self.inside.nodes.nodes c.self.inside.inputs.items c.self.inside.outputs.items c.args.self.now.network is) in
    let p = c.requires.place in
    omega arith

pub index_mut-requires : goal.index_mut-requires
index_mut-requires c =
    let is : network_of c.self.inside.nodes.nodes c.self.inside.inputs.items c.self.inside.outputs.items ≡ c.args.self.now.network = ap (λ (h : StoreValue). h.network) c.self.view_is in
    let same = ap length (outputs-of c.self.inside.nodes.nodes c.self.inside.inputs.items c.self.inside.outputs.items c.args.self.now.network is) in
    let p = c.requires.place in
    omega arith

pub count_all-requires-clause-known : goal.count_all-requires-clause-known
count_all-requires-clause-known c m i =
    let is : network_of c.self.inside.nodes.nodes c.self.inside.inputs.items c.self.inside.outputs.items ≡ c.args.self.now.network = ap (λ (h : StoreValue). h.network) c.self.view_is in
    let room = c.self.invariant.1 in
    elim i as (λ _. m < length c.self.inside.counts.items) [
      | inl e ↦ counts-known c.self.inside.nodes (vec_capacity c.self.inside.inputs) c.self.inside.inputs.items c.self.inside.outputs.items c.self.inside.counts.items c.self.inside.marks.items
          (vec_capacity c.self.inside.queue) c.args.self.now.network room is m (subst (IsLive c.args.self.now.network) (sym e) c.requires.live)
      | inr j ↦ absurd j
    ]

pub count_all-requires-clause-fits : goal.count_all-requires-clause-fits
count_all-requires-clause-fits c =
    let I = c.self.inside in
    let is : network_of c.self.inside.nodes.nodes c.self.inside.inputs.items c.self.inside.outputs.items ≡ c.args.self.now.network = ap (λ (h : StoreValue). h.network) c.self.view_is in
    let stored : IsStored c.args.self.now.network = subst IsStored is c.self.invariant.0 in
    let refs : AreReferences c.self.inside.counts.items c.args.self.now.network = subst (AreReferences c.self.inside.counts.items) is c.self.invariant.2 in
    counts-fit I.counts.items c.args.self.now.network refs stored (c.args.s ∷ []) (omega arith)

pub uncount_all-requires-clause-known : goal.uncount_all-requires-clause-known
uncount_all-requires-clause-known c m i =
    let is : network_of c.self.inside.nodes.nodes c.self.inside.inputs.items c.self.inside.outputs.items ≡ c.args.self.now.network = ap (λ (h : StoreValue). h.network) c.self.view_is in
    let stored : IsStored c.args.self.now.network = subst IsStored is c.self.invariant.0 in
    let room = c.self.invariant.1 in
    let outs = outputs-of c.self.inside.nodes.nodes c.self.inside.inputs.items c.self.inside.outputs.items c.args.self.now.network is in
    let place : c.args.k < length c.args.self.now.network.outputs = c.requires.place in
    let here : c.index-old.result.now ≡ get_or c.args.self.now.network.outputs c.args.k c.index-old.result.now = c.index-old.ensures
    ∙ ap (λ (os : List Signal). get_or os c.args.k c.index-old.result.now) outs in
    elim i as (λ _. m < length c.count_all.new.counts.items) [
      | inl e ↦ (let lt = counts-known c.self.inside.nodes
          (vec_capacity c.self.inside.inputs) c.self.inside.inputs.items c.self.inside.outputs.items c.self.inside.counts.items c.self.inside.marks.items
          (vec_capacity c.self.inside.queue) c.args.self.now.network room is m
          (subst (IsLive c.args.self.now.network) (sym e)
          (stored.whole.outputs_live c.index-old.result.now.node.0 (read-place c.args.self.now.network.outputs c.args.k c.index-old.result.now place here))) in
          let len = c.count_all.ensures.len in omega arith)
      | inr j ↦ absurd j
    ]

pub uncount_all-requires-clause-counted : goal.uncount_all-requires-clause-counted
uncount_all-requires-clause-counted c m =
    let I = c.self.inside in
    let is : network_of c.self.inside.nodes.nodes c.self.inside.inputs.items c.self.inside.outputs.items ≡ c.args.self.now.network = ap (λ (h : StoreValue). h.network) c.self.view_is in
    let refs : AreReferences c.self.inside.counts.items c.args.self.now.network = subst (AreReferences c.self.inside.counts.items) is c.self.invariant.2 in
    let outs = outputs-of c.self.inside.nodes.nodes c.self.inside.inputs.items c.self.inside.outputs.items c.args.self.now.network is in
    let place : c.args.k < length c.args.self.now.network.outputs = c.requires.place in
    let here : c.index-old.result.now ≡ get_or c.args.self.now.network.outputs c.args.k c.index-old.result.now = c.index-old.ensures
    ∙ ap (λ (os : List Signal). get_or os c.args.k c.index-old.result.now) outs in
    let le = output-counted I.counts.items c.args.self.now.network refs c.args.k c.args.s c.index-old.result.now place here m in
    let more = c.count_all.ensures.more m in
    omega arith

pub invariant_of-self : goal.invariant_of-self
invariant_of-self c =
    let I = c.self.inside in
    let is : network_of c.self.inside.nodes.nodes c.self.inside.inputs.items c.self.inside.outputs.items ≡ c.args.self.now.network = ap (λ (h : StoreValue). h.network) c.self.view_is in
    let stored : IsStored c.args.self.now.network = subst IsStored is c.self.invariant.0 in
    let refs : AreReferences c.self.inside.counts.items c.args.self.now.network = subst (AreReferences c.self.inside.counts.items) is c.self.invariant.2 in
    let room = c.self.invariant.1 in
    let outs = outputs-of c.self.inside.nodes.nodes c.self.inside.inputs.items c.self.inside.outputs.items c.args.self.now.network is in
    let place : c.args.k < length c.args.self.now.network.outputs = c.requires.place in
    let here : c.index-old.result.now ≡ get_or c.args.self.now.network.outputs c.args.k c.index-old.result.now = c.index-old.ensures
    ∙ ap (λ (os : List Signal). get_or os c.args.k c.index-old.result.now) outs in
    let links : AreLinked c.self.inside.chains c.self.inside.nodes.room c.args.self.now.network = subst (AreLinked c.self.inside.chains c.self.inside.nodes.room) is c.self.invariant.3 in
    let to = network-output I.nodes.nodes I.inputs.items I.outputs.items _ c.args.self.now.network is c.args.k c.args.s refl in (
      subst IsStored (sym to) (stored-output c.args.self.now.network c.args.k c.args.s stored c.requires.live),
      room-kept I.nodes I.nodes (vec_capacity I.inputs) I.inputs.items I.counts.items c.uncount_all.new.counts.items I.marks.items (vec_capacity I.queue) room room.fitting refl
          (c.uncount_all.ensures.len ∙ c.count_all.ensures.len),
      subst (AreReferences c.uncount_all.new.counts.items) (sym to)
          (kept-output I.counts.items c.count_all.new.counts.items c.uncount_all.new.counts.items c.args.self.now.network refs c.args.k c.args.s c.index-old.result.now place here
          c.count_all.ensures.more c.uncount_all.ensures.less),
      subst (AreLinked c.self.inside.chains c.self.inside.nodes.room) (sym to)
          (linked-output c.self.inside.chains c.self.inside.nodes.room c.self.inside.nodes.room c.args.self.now.network links links.fits c.args.k c.args.s c.index-old.result.now place here),
    )

pub returns-clause-network : goal.returns-clause-network
returns-clause-network c =
    let I = c.self.inside in
    let is : network_of c.self.inside.nodes.nodes c.self.inside.inputs.items c.self.inside.outputs.items ≡ c.args.self.now.network = ap (λ (h : StoreValue). h.network) c.self.view_is in
    network-output I.nodes.nodes I.inputs.items I.outputs.items _ c.args.self.now.network is c.args.k c.args.s refl
