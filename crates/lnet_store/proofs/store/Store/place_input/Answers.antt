use Rattle.std.proofs.Common.{◌≡◌, IsSome, [], ◌∷◌, length, length-append, subst, ap, sym, ◌∙◌, arith}
use Rattle.lnet_model.specs.Dags.{IsStored}
use Rattle.lnet_store.specs.StoreValues.{StoreValue}
use Rattle.lnet_store.specs.Fields.{network_of, AreReferences}
use Rattle.lnet_store.specs.Linked.{AreLinked}
use Rattle.lnet_store.proofs.LinkLemmas.{linked-input}
use Rattle.lnet_store.proofs.StoreLemmas.{entry-of, live-of, inputs-of}
use Rattle.lnet_store.proofs.ChangeLemmas.{network-input, stored-input, count-input}
use Rattle.lnet_store.proofs.FewInputs.{few-inputs}
use Rattle.lnet_store.proofs.KeptLemmas.{kept-input}
use Rattle.lnet_store.proofs.store.Store.place_input.Goals as goal
use Rattle.lnet_store.proofs.StoreLemmas.{length-nodes}

pub fill-requires-clause-free : goal.fill-requires-clause-free
fill-requires-clause-free c = entry-of c.self.inside.nodes.nodes c.self.inside.inputs.items c.self.inside.outputs.items c.args.self.now.network
    (ap (λ (h : StoreValue). h.network) c.self.view_is) c.args.n.0 ∙ c.requires.number.free

pub fill-requires-clause-least : goal.fill-requires-clause-least
fill-requires-clause-least c m lt = subst IsSome
    (sym (entry-of c.self.inside.nodes.nodes c.self.inside.inputs.items c.self.inside.outputs.items c.args.self.now.network (ap (λ (h : StoreValue). h.network) c.self.view_is) m))
    (c.requires.number.least m lt)

pub push_reserved-requires : goal.push_reserved-requires
push_reserved-requires c =
    let I = c.self.inside in
    let is : network_of c.self.inside.nodes.nodes c.self.inside.inputs.items c.self.inside.outputs.items ≡ c.args.self.now.network = ap (λ (h : StoreValue). h.network) c.self.view_is in
    let stored : IsStored c.args.self.now.network = subst IsStored is c.self.invariant.0 in
    let room = c.self.invariant.1 in
    let few = few-inputs c.args.self.now.network stored in
    let same = ap length (inputs-of c.self.inside.nodes.nodes c.self.inside.inputs.items c.self.inside.outputs.items c.args.self.now.network is) in
    let len = length-nodes I.inputs.items in
    let e = live-of c.self.inside.nodes.nodes c.self.inside.inputs.items c.self.inside.outputs.items c.args.self.now.network is in
    let s = ap (λ (h : StoreValue). h.spare) c.self.view_is in
    let some = c.requires.spare in
    let fit = room.inputs_fit in
    omega arith

pub invariant_of-self : goal.invariant_of-self
invariant_of-self c =
    let I = c.self.inside in
    let is : network_of c.self.inside.nodes.nodes c.self.inside.inputs.items c.self.inside.outputs.items ≡ c.args.self.now.network = ap (λ (h : StoreValue). h.network) c.self.view_is in
    let stored : IsStored c.args.self.now.network = subst IsStored is c.self.invariant.0 in
    let refs : AreReferences c.self.inside.counts.items c.args.self.now.network = subst (AreReferences c.self.inside.counts.items) is c.self.invariant.2 in
    let room = c.self.invariant.1 in
    let links : AreLinked c.self.inside.chains c.self.inside.nodes.room c.args.self.now.network = subst (AreLinked c.self.inside.chains c.self.inside.nodes.room) is c.self.invariant.3 in
    let to = network-input I.nodes.nodes c.fill.new.self.nodes I.inputs.items c.push_reserved.new.self.items I.outputs.items c.args.self.now.network is c.args.n c.len-k.result
    (let k : c.len-k.result ≡ length c.self.inside.inputs.items = omega (arith, c.len-k.ensures) in k) c.fill.ensures.nodes c.push_reserved.ensures.items in
    let few = few-inputs c.args.self.now.network stored in
    let same = ap length (inputs-of c.self.inside.nodes.nodes c.self.inside.inputs.items c.self.inside.outputs.items c.args.self.now.network is) in
    let len = length-nodes I.inputs.items in
    let e = live-of c.self.inside.nodes.nodes c.self.inside.inputs.items c.self.inside.outputs.items c.args.self.now.network is in
    let a = c.fill.ensures.room in
    let b = c.push_reserved.ensures.capacity in (
      subst IsStored (sym to) (stored-input c.args.self.now.network c.args.n.0 stored c.requires.number.free c.fill.ensures.within),
      record {
        fitting = c.fill.ensures.fitting;
        inputs_fit = (let d = room.inputs_fit in omega arith);
        few_inputs = (let more = ap length c.push_reserved.ensures.items ∙ length-append I.inputs.items (c.args.n ∷ []) in let d = room.fitting.few in let l = room.fitting.limit in omega arith);
        counts_fit = (let d = room.counts_fit in omega arith);
        marks_fit = (let d = room.marks_fit in omega arith);
        unmarked = room.unmarked;
        queue_fits = (let d = room.queue_fits in omega arith);
      },
      subst (AreReferences I.counts.items) (sym to) (kept-input I.counts.items c.args.self.now.network refs c.args.n.0 c.requires.number.free),
      subst (AreLinked c.self.inside.chains c.fill.new.self.room) (sym to)
          (linked-input c.self.inside.chains c.self.inside.nodes.room c.fill.new.self.room c.args.self.now.network links (let f = links.fits in omega arith) c.args.n.0 c.requires.number.free),
    )

pub returns-clause-network : goal.returns-clause-network
returns-clause-network c =
    let I = c.self.inside in
    let is : network_of c.self.inside.nodes.nodes c.self.inside.inputs.items c.self.inside.outputs.items ≡ c.args.self.now.network = ap (λ (h : StoreValue). h.network) c.self.view_is in
    network-input I.nodes.nodes c.fill.new.self.nodes I.inputs.items c.push_reserved.new.self.items I.outputs.items c.args.self.now.network is c.args.n c.len-k.result
    (let k : c.len-k.result ≡ length c.self.inside.inputs.items = omega (arith, c.len-k.ensures) in k) c.fill.ensures.nodes c.push_reserved.ensures.items

pub returns-clause-spare : goal.returns-clause-spare
returns-clause-spare c =
    let I = c.self.inside in
    let is : network_of c.self.inside.nodes.nodes c.self.inside.inputs.items c.self.inside.outputs.items ≡ c.args.self.now.network = ap (λ (h : StoreValue). h.network) c.self.view_is in
    let stored : IsStored c.args.self.now.network = subst IsStored is c.self.invariant.0 in
    let to = network-input I.nodes.nodes c.fill.new.self.nodes I.inputs.items c.push_reserved.new.self.items I.outputs.items c.args.self.now.network is c.args.n c.len-k.result
    (let k : c.len-k.result ≡ length c.self.inside.inputs.items = omega (arith, c.len-k.ensures) in k) c.fill.ensures.nodes c.push_reserved.ensures.items in
    let more = count-input c.args.self.now.network c.args.n.0 stored c.requires.number.free in
    let old = live-of c.self.inside.nodes.nodes c.self.inside.inputs.items c.self.inside.outputs.items c.args.self.now.network is in
    let new = live-of c.fill.new.self.nodes c.push_reserved.new.self.items I.outputs.items _ to in
    let s = ap (λ (h : StoreValue). h.spare) c.self.view_is in
    let r = c.fill.ensures.room in
    let some = c.requires.spare in
    omega arith
