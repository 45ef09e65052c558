use Rattle.std.proofs.Common.{length, subst, ap, arith}
use Rattle.lnet_model.specs.Dags.{IsStored}
use Rattle.lnet_store.specs.StoreValues.{StoreValue}
use Rattle.lnet_store.proofs.StoreLemmas.{outputs-of}
use Rattle.lnet_store.proofs.store.Store.output_count.Goals as goal

pub overflow_cast-result : goal.overflow_cast-result
overflow_cast-result c =
    let few = (subst IsStored (ap (λ (h : StoreValue). h.network) c.self.view_is) c.self.invariant.0).few_outputs in
    let e = ap length (outputs-of c.self.inside.nodes.nodes c.self.inside.inputs.items c.self.inside.outputs.items c.args.self.now.network (ap (λ (h : StoreValue). h.network) c.self.view_is)) in
    omega arith

pub returns : goal.returns
returns c =
    let e = ap length (outputs-of c.self.inside.nodes.nodes c.self.inside.inputs.items c.self.inside.outputs.items c.args.self.now.network (ap (λ (h : StoreValue). h.network) c.self.view_is)) in
    omega arith
