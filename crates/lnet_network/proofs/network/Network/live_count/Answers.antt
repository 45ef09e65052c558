use Rattle.std.proofs.Common.{◌≤◌, sym, ap, subst, ◌∙◌}
use Rattle.lnet_model.specs.Networks.{live_count}
use Rattle.lnet_model.specs.Dags.{NUMBERS, IsStored}
use Rattle.lnet_hashed.specs.Strashed.{IsStrashed}
use Rattle.lnet_network.proofs.OfKind.{count-kind}
use Rattle.lnet_network.proofs.SeenAs.{stored-kind, strashed-kind}
use Rattle.lnet_network.proofs.network.Network.live_count.Goals as goal

pub returns-clause-value : goal.returns-clause-value
returns-clause-value g c = c.live_count.ensures.value ∙ sym (count-kind g.G.Gates.KIND c.self.inside.0.0.hashed.store.network) ∙ ap live_count (ap (λ n. n.core.network) c.self.view_is)

pub returns-clause-limit : goal.returns-clause-limit
returns-clause-limit g c = subst (λ x. x ≤ NUMBERS) (sym (count-kind g.G.Gates.KIND c.self.inside.0.0.hashed.store.network) ∙ ap live_count (ap (λ n. n.core.network) c.self.view_is)) c.live_count.ensures.limit

pub returns-clause-stored : goal.returns-clause-stored
returns-clause-stored g c = subst IsStored (ap (λ n. n.core.network) c.self.view_is) (stored-kind g.G.Gates.KIND c.self.inside.0.0.hashed.store.network c.live_count.ensures.stored)

pub returns-clause-strashed : goal.returns-clause-strashed
returns-clause-strashed g c = subst (IsStrashed g.G.Gates.KIND) (ap (λ n. n.core.network) c.self.view_is) (strashed-kind g.G.Gates.KIND c.self.inside.0.0.hashed.store.network c.self.invariant.0)
