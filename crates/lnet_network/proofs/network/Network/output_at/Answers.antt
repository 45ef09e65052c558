use Rattle.std.proofs.Common.{Option, None, Some, IsSome, IfSome, sym, ap, subst, ◌∙◌}
use Rattle.lnet_model.specs.Networks.{entry_at}
use Rattle.lnet_network.proofs.OfKind.{entry-kind}
use Rattle.lnet_network.proofs.network.Network.output_at.Goals as goal

live-result : {A : Type 0} (P Q : A → Type 0) (o : Option A) → ((x : A) → P x → Q x) → IfSome o P → IfSome o Q
live-result P Q None f h = h
live-result P Q (Some x) f h = f x h

pub returns-clause-live : goal.returns-clause-live
returns-clause-live g c = live-result _ _ c.output.result (λ s live. subst IsSome (sym (entry-kind g.G.Gates.KIND c.self.inside.0.0.hashed.store.network s.node.0) ∙ ap (λ n. entry_at n.core.network s.node.0) c.self.view_is) live) c.output.ensures.live
