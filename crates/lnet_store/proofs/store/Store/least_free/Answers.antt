use Rattle.std.proofs.Common.{IsSome, subst, ap, sym, ◌∙◌, arith}
use Rattle.lnet_store.specs.StoreValues.{StoreValue}
use Rattle.lnet_store.proofs.StoreLemmas.{entry-of}
use Rattle.lnet_store.proofs.store.Store.least_free.Goals as goal

pub next_free-requires : goal.next_free-requires
next_free-requires c =
    let s = ap (λ (h : StoreValue). h.spare) c.self.view_is in
    let r = c.requires in
    omega arith

pub returns : goal.returns
returns c =
    let e = entry-of c.self.inside.nodes.nodes c.self.inside.inputs.items c.self.inside.outputs.items c.args.self.now.network (ap (λ (h : StoreValue). h.network) c.self.view_is) in
    record {
      free = sym (e c.next_free.result.0) ∙ c.next_free.ensures.free;
      least = λ m lt. subst IsSome (e m) (c.next_free.ensures.least m lt);
    }
