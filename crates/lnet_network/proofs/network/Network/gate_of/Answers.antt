use Rattle.std.proofs.Common.{sym, ap, ◌∙◌}
use Rattle.lnet_model.specs.Networks.{gate_at}
use Rattle.lnet_network.proofs.SeenAs.{gate-kind}
use Rattle.lnet_network.proofs.network.Network.gate_of.Goals as goal

pub returns : goal.returns
returns g c = c.gate_of.ensures ∙ sym (gate-kind g.G.Gates.KIND c.self.inside.0.0.hashed.store.network c.args.n.0) ∙ ap (λ M. gate_at M c.args.n.0) (ap (λ n. n.core.network) c.self.view_is)
