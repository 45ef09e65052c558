use Rattle.std.proofs.Common.{ap, ◌∙◌, arith}
use Rattle.lnet_store.specs.StoreValues.{StoreValue}
use Rattle.lnet_store.proofs.StoreLemmas.{live-of}
use Rattle.lnet_store.proofs.store.Store.live_count.Goals as goal

pub returns-clause-value : goal.returns-clause-value
returns-clause-value c = c.live.ensures.value ∙ live-of c.self.inside.nodes.nodes c.self.inside.inputs.items c.self.inside.outputs.items c.args.self.now.network (ap (λ (h : StoreValue). h.network) c.self.view_is)

pub returns-clause-limit : goal.returns-clause-limit
returns-clause-limit c = let e = live-of c.self.inside.nodes.nodes c.self.inside.inputs.items c.self.inside.outputs.items c.args.self.now.network (ap (λ (h : StoreValue). h.network) c.self.view_is) in omega (arith, c.live.ensures.limit, e)
