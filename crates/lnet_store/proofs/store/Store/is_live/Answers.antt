use Rattle.std.proofs.Common.{◌↔◌, IsTrue, IsSome, subst, ap}
use Rattle.lnet_store.specs.StoreValues.{StoreValue}
use Rattle.lnet_store.proofs.StoreLemmas.{entry-of}
use Rattle.lnet_store.proofs.store.Store.is_live.Goals as goal

pub returns : goal.returns
returns c = subst (λ o. IsTrue c.is_live.result ↔ IsSome o) (entry-of c.self.inside.nodes.nodes c.self.inside.inputs.items c.self.inside.outputs.items c.args.self.now.network (ap (λ (h : StoreValue). h.network) c.self.view_is) c.args.n.0) c.is_live.ensures
