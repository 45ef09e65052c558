use Rattle.std.proofs.Common.{ap, sym, ◌∙◌}
use Rattle.lnet_network.proofs.network.Network.kind.Goals as goal

pub returns-clause-value : goal.returns-clause-value
returns-clause-value g c = c.KIND.ensures ∙ ap (λ n. n.core.network.kind) c.self.view_is

pub returns-clause-kind : goal.returns-clause-kind
returns-clause-kind g c = sym (ap (λ n. n.core.network.kind) c.self.view_is)
