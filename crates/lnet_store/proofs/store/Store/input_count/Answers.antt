use Rattle.std.proofs.Common.{length, ap, arith}
use Rattle.lnet_store.specs.StoreValues.{StoreValue}
use Rattle.lnet_store.proofs.StoreLemmas.{inputs-of}
use Rattle.lnet_store.proofs.store.Store.input_count.Goals as goal
use Rattle.lnet_store.proofs.StoreLemmas.{length-nodes}

pub returns : goal.returns
returns c =
    let e = ap length (inputs-of c.self.inside.nodes.nodes c.self.inside.inputs.items c.self.inside.outputs.items c.args.self.now.network (ap (λ (h : StoreValue). h.network) c.self.view_is)) in
    let same = length-nodes c.self.inside.inputs.items in
    omega arith
