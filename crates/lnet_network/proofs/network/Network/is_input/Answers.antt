use Rattle.std.proofs.Common.{sym, ap, ◌∙◌}
use Rattle.lnet_model.specs.Networks.{entry_at}
use Rattle.lnet_network.proofs.OfKind.{entry-kind}
use Rattle.lnet_network.proofs.network.Network.is_input.Goals as goal

pub returns : goal.returns
returns g c =
    let same = sym (entry-kind g.G.Gates.KIND c.self.inside.0.0.hashed.store.network c.args.n.0) ∙ ap (λ n. entry_at n.core.network c.args.n.0) c.self.view_is in
    (λ h. (let p = c.is_input.ensures.0 h in (p.0, sym same ∙ p.1)), λ l. c.is_input.ensures.1 (l.0, same ∙ l.1))
