use Rattle.std.proofs.Common.{◌≡◌, ℕ, IfOk, Result, Ok, Err, sym, ap, ◌∙◌}
use Rattle.lnet_model.specs.Levels.{depth}
use Rattle.lnet_network.proofs.SeenAs.{depth-kind}
use Rattle.lnet_network.proofs.network.Network.depth.Goals as goal

same-depth : {E : Type 0} (d e : ℕ) (r : Result ℕ E) → d ≡ e → IfOk r (λ x. x ≡ d) → IfOk r (λ x. x ≡ e)
same-depth d e (Ok x) same h = h ∙ same
same-depth d e (Err x) same h = h

pub returns : goal.returns
returns g c = same-depth (depth c.self.inside.0.0.hashed.store.network) _ c.depth.result (sym (depth-kind g.G.Gates.KIND c.self.inside.0.0.hashed.store.network) ∙ ap depth (ap (λ n. n.core.network) c.self.view_is)) c.depth.ensures
