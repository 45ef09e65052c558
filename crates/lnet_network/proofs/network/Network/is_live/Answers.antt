use Rattle.std.proofs.Common.{IsSome, sym, ap, subst, ◌∙◌}
use Rattle.lnet_model.specs.Networks.{entry_at}
use Rattle.lnet_network.proofs.OfKind.{entry-kind}
use Rattle.lnet_network.proofs.network.Network.is_live.Goals as goal

pub returns : goal.returns
returns g c =
    let same = sym (entry-kind g.G.Gates.KIND c.self.inside.0.0.hashed.store.network c.args.n.0) ∙ ap (λ n. entry_at n.core.network c.args.n.0) c.self.view_is in
    (λ h. subst IsSome same (c.is_live.ensures.0 h), λ l. c.is_live.ensures.1 (subst IsSome (sym same) l))
