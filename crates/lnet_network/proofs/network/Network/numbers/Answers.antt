use Rattle.std.proofs.Common.{◌≤◌, sym, ap, subst, ◌∙◌}
use Rattle.lnet_model.specs.Dags.{NUMBERS, AreBelow, numbers_of}
use Rattle.lnet_hashed.specs.Strashed.{of_kind}
use Rattle.lnet_network.proofs.SeenAs.{numbers-kind, below-kind}
use Rattle.lnet_network.proofs.network.Network.numbers.Goals as goal

pub returns-clause-value : goal.returns-clause-value
returns-clause-value g c = c.numbers.ensures.value ∙ sym (numbers-kind g.G.Gates.KIND c.self.inside.0.0.hashed.store.network) ∙ ap numbers_of (ap (λ n. n.core.network) c.self.view_is)

pub returns-clause-limit : goal.returns-clause-limit
returns-clause-limit g c = subst (λ x. x ≤ NUMBERS) (sym (numbers-kind g.G.Gates.KIND c.self.inside.0.0.hashed.store.network) ∙ ap numbers_of (ap (λ n. n.core.network) c.self.view_is)) c.numbers.ensures.limit

pub returns-clause-within : goal.returns-clause-within
returns-clause-within g c = subst (λ M. AreBelow M (numbers_of M)) (ap (λ n. n.core.network) c.self.view_is) (subst (AreBelow (of_kind g.G.Gates.KIND c.self.inside.0.0.hashed.store.network)) (sym (numbers-kind g.G.Gates.KIND c.self.inside.0.0.hashed.store.network)) (below-kind g.G.Gates.KIND c.self.inside.0.0.hashed.store.network (numbers_of c.self.inside.0.0.hashed.store.network) c.numbers.ensures.within))
