use Rattle.std.proofs.Common.{◌-◌, sym, ap, ◌∙◌, arith}
use Rattle.lnet_model.specs.Networks.{live_count}
use Rattle.lnet_views.proofs.Counts.{live-below}
use Rattle.lnet_network.proofs.OfKind.{count-kind}
use Rattle.lnet_network.proofs.network.Network.spare.Goals as goal

pub overflow_sub-result : goal.overflow_sub-result
overflow_sub-result g c =
    let live = live-below c.self.inside.0.0.hashed.store.network c.self.inside.0.0.hashed.room c.self.invariant.1.below in
    let count = c.live_count.ensures.value in
    omega arith

pub returns : goal.returns
returns g c =
    ap (λ x. c.self.inside.0.0.hashed.room - x) (c.live_count.ensures.value ∙ sym (count-kind g.G.Gates.KIND c.self.inside.0.0.hashed.store.network))
    ∙ ap (λ n. n.core.room - live_count n.core.network) c.self.view_is
