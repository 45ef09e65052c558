use Rattle.std.proofs.Common.{inl, inr, ◌≡◌, ◌<◌, [], ◌∷◌, length, subst, ap, sym, refl, arith}
use Rattle.std.specs.Vec.{vec_capacity}
use Rattle.lnet_model.specs.Networks.{IsLive}
use Rattle.lnet_model.specs.Dags.{IsStored}
use Rattle.lnet_store.specs.StoreValues.{StoreValue}
use Rattle.lnet_store.specs.Fields.{network_of, AreReferences}
use Rattle.lnet_store.specs.Linked.{AreLinked}
use Rattle.lnet_store.proofs.LinkLemmas.{linked-new_output}
use Rattle.lnet_store.proofs.StoreLemmas.{outputs-of}
use Rattle.lnet_store.proofs.ChangeLemmas.{network-new_output, stored-new_output}
use Rattle.lnet_store.proofs.KeptLemmas.{counts-known, counts-fit, room-kept, kept-new_output}
use Rattle.lnet_store.proofs.store.Store.add_output.Goals as goal

pub overflow_cast-k : goal.overflow_cast-k
overflow_cast-k c =
    let is : network_of c.self.inside.nodes.nodes c.self.inside.inputs.items c.self.inside.outputs.items ≡ c.args.self.now.network = ap (λ (h : StoreValue). h.network) c.self.view_is in
    let same = ap length (outputs-of c.self.inside.nodes.nodes c.self.inside.inputs.items c.self.inside.outputs.items c.args.self.now.network is) in
    let few = c.requires.few in
    omega arith

pub count_all-requires-clause-known : goal.count_all-requires-clause-known
count_all-requires-clause-known c m i =
    let is : network_of c.self.inside.nodes.nodes c.self.inside.inputs.items c.self.inside.outputs.items ≡ c.args.self.now.network = ap (λ (h : StoreValue). h.network) c.self.view_is in
    let room = c.self.invariant.1 in
    elim i as (λ _. m < length c.self.inside.counts.items) [
      | inl e ↦ counts-known c.self.inside.nodes (vec_capacity c.self.inside.inputs) c.self.inside.inputs.items c.self.inside.outputs.items c.self.inside.counts.items c.self.inside.marks.items
          (vec_capacity c.self.inside.queue) c.args.self.now.network room is m (subst (IsLive c.args.self.now.network) (sym e) c.requires.live)
      | inr j ↦ absurd j
    ]

pub count_all-requires-clause-fits : goal.count_all-requires-clause-fits
count_all-requires-clause-fits c =
    let I = c.self.inside in
    let is : network_of c.self.inside.nodes.nodes c.self.inside.inputs.items c.self.inside.outputs.items ≡ c.args.self.now.network = ap (λ (h : StoreValue). h.network) c.self.view_is in
    let stored : IsStored c.args.self.now.network = subst IsStored is c.self.invariant.0 in
    let refs : AreReferences c.self.inside.counts.items c.args.self.now.network = subst (AreReferences c.self.inside.counts.items) is c.self.invariant.2 in
    counts-fit I.counts.items c.args.self.now.network refs stored (c.args.s ∷ []) (omega arith)

pub invariant_of-self : goal.invariant_of-self
invariant_of-self c =
    let I = c.self.inside in
    let is : network_of c.self.inside.nodes.nodes c.self.inside.inputs.items c.self.inside.outputs.items ≡ c.args.self.now.network = ap (λ (h : StoreValue). h.network) c.self.view_is in
    let stored : IsStored c.args.self.now.network = subst IsStored is c.self.invariant.0 in
    let refs : AreReferences c.self.inside.counts.items c.args.self.now.network = subst (AreReferences c.self.inside.counts.items) is c.self.invariant.2 in
    let room = c.self.invariant.1 in
    let links : AreLinked c.self.inside.chains c.self.inside.nodes.room c.args.self.now.network = subst (AreLinked c.self.inside.chains c.self.inside.nodes.room) is c.self.invariant.3 in
    let to = network-new_output I.nodes.nodes I.inputs.items I.outputs.items c.push.new.self.items c.args.self.now.network is c.args.s c.in-Ok.ensures.items in (
      subst IsStored (sym to) (stored-new_output c.args.self.now.network c.args.s stored c.requires.live c.requires.few),
      room-kept I.nodes I.nodes (vec_capacity I.inputs) I.inputs.items I.counts.items c.count_all.new.counts.items I.marks.items (vec_capacity I.queue) room room.fitting refl c.count_all.ensures.len,
      subst (AreReferences c.count_all.new.counts.items) (sym to) (kept-new_output I.counts.items c.count_all.new.counts.items c.args.self.now.network refs c.args.s c.count_all.ensures.more),
      subst (AreLinked c.self.inside.chains c.self.inside.nodes.room) (sym to)
          (linked-new_output c.self.inside.chains c.self.inside.nodes.room c.self.inside.nodes.room c.args.self.now.network links links.fits c.args.s),
    )

pub returns-in-Ok-clause-place : goal.returns-in-Ok-clause-place
returns-in-Ok-clause-place c =
    let is : network_of c.self.inside.nodes.nodes c.self.inside.inputs.items c.self.inside.outputs.items ≡ c.args.self.now.network = ap (λ (h : StoreValue). h.network) c.self.view_is in
    let same = ap length (outputs-of c.self.inside.nodes.nodes c.self.inside.inputs.items c.self.inside.outputs.items c.args.self.now.network is) in
    omega arith

pub returns-in-Ok-clause-network : goal.returns-in-Ok-clause-network
returns-in-Ok-clause-network c =
    let I = c.self.inside in
    let is : network_of c.self.inside.nodes.nodes c.self.inside.inputs.items c.self.inside.outputs.items ≡ c.args.self.now.network = ap (λ (h : StoreValue). h.network) c.self.view_is in
    network-new_output I.nodes.nodes I.inputs.items I.outputs.items c.push.new.self.items c.args.self.now.network is c.args.s c.in-Ok.ensures.items
