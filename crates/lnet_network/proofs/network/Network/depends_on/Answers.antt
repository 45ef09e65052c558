use Rattle.std.proofs.Common.{sym, ap, subst}
use Rattle.lnet_model.specs.Along.{Reaches}
use Rattle.lnet_network.proofs.SeenAs.{reaches-kind, kind-reaches}
use Rattle.lnet_network.proofs.network.Network.depends_on.Goals as goal

pub returns-clause-answer : goal.returns-clause-answer
returns-clause-answer g c = (
  λ h. subst (λ M. Reaches M c.args.s.node.0 c.args.n.0) (ap (λ n. n.core.network) c.self.view_is) (reaches-kind g.G.Gates.KIND c.self.inside.0.0.hashed.store.network c.args.s.node.0 c.args.n.0 (c.depends_on.ensures.answer.0 h)),
  λ d. c.depends_on.ensures.answer.1 (kind-reaches g.G.Gates.KIND c.self.inside.0.0.hashed.store.network c.args.s.node.0 c.args.n.0 (subst (λ M. Reaches M c.args.s.node.0 c.args.n.0) (sym (ap (λ n. n.core.network) c.self.view_is)) d)),
)
