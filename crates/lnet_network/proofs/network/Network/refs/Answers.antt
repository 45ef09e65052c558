use Rattle.std.proofs.Common.{sym, ap, ◌∙◌}
use Rattle.lnet_model.specs.Fanouts.{references}
use Rattle.lnet_network.proofs.SeenAs.{references-kind}
use Rattle.lnet_network.proofs.network.Network.refs.Goals as goal

pub returns : goal.returns
returns g c = c.refs.ensures ∙ sym (references-kind g.G.Gates.KIND c.self.inside.0.0.hashed.store.network c.args.n.0) ∙ ap (λ M. references M c.args.n.0) (ap (λ n. n.core.network) c.self.view_is)
