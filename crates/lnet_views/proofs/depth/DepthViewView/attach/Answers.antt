use Rattle.std.proofs.Common.{refl}
use Rattle.lnet_views.specs.Follows.{answers_in}
use Rattle.lnet_views.proofs.DepthLemmas.{depth-in-step}
use Rattle.lnet_views.proofs.depth.DepthViewView.attach.Goals as goal

pub returns-clause-in_step : goal.returns-clause-in_step
returns-clause-in_step c = depth-in-step _ (λ a b. refl) _ _ (answers_in c.attach.new.self.kept) c.args.store.now.network c.attach.new.self.rule c.in_ok-attach.ensures.in_step
