use Rattle.std.proofs.Common.{◌≡◌, subst, ap, sym, refl, arith}
use Rattle.std.specs.Vec.{vec_capacity}
use Rattle.std.specs.FinMap.{len}
use Rattle.lnet_model.specs.Dags.{IsStored}
use Rattle.lnet_store.specs.StoreValues.{StoreValue}
use Rattle.lnet_store.specs.Fields.{network_of, AreReferences}
use Rattle.lnet_store.specs.Linked.{AreLinked}
use Rattle.lnet_store.proofs.LinkLemmas.{linked-same}
use Rattle.lnet_store.proofs.StoreLemmas.{live-of, room-more, network-same, counts-same, on-ok}
use Rattle.lnet_store.proofs.store.Store.grow.Goals as goal

pub grow-requires-clause-more : goal.grow-requires-clause-more
grow-requires-clause-more c =
    let e = live-of c.self.inside.nodes.nodes c.self.inside.inputs.items c.self.inside.outputs.items c.args.self.now.network (ap (λ (h : StoreValue). h.network) c.self.view_is) in
    let s = ap (λ (h : StoreValue). h.spare) c.self.view_is in
    let m = c.requires.more in
    omega arith

pub invariant_of-self : goal.invariant_of-self
invariant_of-self c =
    let I = c.self.inside in
    let p = c.in-Ok.ensures in
    let same = network-same I.nodes.nodes c.grow.new.self.nodes I.inputs.items c.get_places.new.inputs.items I.outputs.items c.grow.ensures.nodes p.inputs in
    let most = c.grow.ensures.most in (
      subst IsStored (sym same) c.self.invariant.0,
      room-more I.nodes c.grow.new.self (vec_capacity I.inputs)
          (vec_capacity c.get_places.new.inputs) I.inputs.items c.get_places.new.inputs.items I.counts.items c.get_places.new.counts.items I.marks.items c.get_places.new.marks.items
          (vec_capacity I.queue) (vec_capacity c.get_places.new.queue) c.self.invariant.1 c.grow.ensures.fitting (let a = p.ok.0 in omega arith) p.inputs (let a = p.ok.1 in omega arith)
          (let a = p.ok.2 in omega arith) p.marks (let a = p.ok.3 in omega arith),
      subst (AreReferences c.get_places.new.counts.items) (sym same)
          (counts-same I.counts.items c.get_places.new.counts.items (network_of I.nodes.nodes I.inputs.items I.outputs.items) p.counts c.self.invariant.2),
      subst (AreLinked c.get_places.new.chains c.grow.new.self.room) (sym same)
          (linked-same c.self.inside.chains c.get_places.new.chains c.self.inside.nodes.room c.grow.new.self.room
          (network_of I.nodes.nodes I.inputs.items I.outputs.items) c.self.invariant.3 p.chains.places (let a = p.ok.4 in omega arith) p.chains.same),
    )

pub invariant_of-self-in-Err : goal.invariant_of-self-in-Err
invariant_of-self-in-Err c =
    let I = c.self.inside in
    let p = c.in-Err.ensures in
    let same = network-same I.nodes.nodes I.nodes.nodes I.inputs.items c.get_places.new.inputs.items I.outputs.items refl p.inputs in
    let h = c.self.invariant.1 in (
      subst IsStored (sym same) c.self.invariant.0,
      room-more I.nodes I.nodes (vec_capacity I.inputs)
          (vec_capacity c.get_places.new.inputs) I.inputs.items c.get_places.new.inputs.items I.counts.items c.get_places.new.counts.items I.marks.items c.get_places.new.marks.items
          (vec_capacity I.queue) (vec_capacity c.get_places.new.queue) c.self.invariant.1 h.fitting (let a = h.inputs_fit in let b = p.capacity in omega arith) p.inputs
          (let a = h.counts_fit in let b = p.counts_grow in omega arith) (let a = h.marks_fit in let b = p.marks_grow in omega arith) p.marks
          (let a = h.queue_fits in let b = p.queue_grows in omega arith),
      subst (AreReferences c.get_places.new.counts.items) (sym same)
          (counts-same I.counts.items c.get_places.new.counts.items (network_of I.nodes.nodes I.inputs.items I.outputs.items) p.counts c.self.invariant.2),
      subst (AreLinked c.get_places.new.chains c.self.inside.nodes.room) (sym same)
          (linked-same c.self.inside.chains c.get_places.new.chains c.self.inside.nodes.room c.self.inside.nodes.room
          (network_of I.nodes.nodes I.inputs.items I.outputs.items) c.self.invariant.3 p.chains.places (let a = p.chains.grows in let f = c.self.invariant.3.fits in omega arith) p.chains.same),
    )

pub returns-in-Ok-clause-spare : goal.returns-in-Ok-clause-spare
returns-in-Ok-clause-spare c =
    let e = live-of c.self.inside.nodes.nodes c.self.inside.inputs.items c.self.inside.outputs.items c.args.self.now.network (ap (λ (h : StoreValue). h.network) c.self.view_is) in
    let l = ap len c.grow.ensures.nodes in
    let m = c.requires.more in
    on-ok c.grow.result (λ (r : c.grow.new.self.room ≡ c.args.room). omega arith) c.grow.ensures.ok
