use Rattle.std.proofs.Common.{◌≡◌, ℕ, ◌↔◌, IsTrue, Some, subst, ap}
use Rattle.lnet_model.specs.Networks.{Input}
use Rattle.lnet_store.specs.StoreValues.{StoreValue}
use Rattle.lnet_store.proofs.StoreLemmas.{entry-of}
use Rattle.lnet_store.proofs.store.Store.is_input.Goals as goal

pub returns : goal.returns
returns c = subst (λ o. IsTrue c.is_input.result ↔ ((k : ℕ) × (o ≡ Some (Input k)))) (entry-of c.self.inside.nodes.nodes c.self.inside.inputs.items c.self.inside.outputs.items c.args.self.now.network (ap (λ (h : StoreValue). h.network) c.self.view_is) c.args.n.0) c.is_input.ensures
