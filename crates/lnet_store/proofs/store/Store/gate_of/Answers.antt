use Rattle.std.proofs.Common.{ap, ◌∙◌}
use Rattle.lnet_model.specs.Networks.{gate_in}
use Rattle.lnet_store.specs.StoreValues.{StoreValue}
use Rattle.lnet_store.proofs.StoreLemmas.{entry-of}
use Rattle.lnet_store.proofs.store.Store.gate_of.Goals as goal

pub returns : goal.returns
returns c = c.gate_of.ensures ∙ ap gate_in (entry-of c.self.inside.nodes.nodes c.self.inside.inputs.items c.self.inside.outputs.items c.args.self.now.network (ap (λ (h : StoreValue). h.network) c.self.view_is) c.args.n.0)
