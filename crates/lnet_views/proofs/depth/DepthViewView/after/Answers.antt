use Rattle.std.proofs.Common.{refl}
use Rattle.lnet_model.specs.Changes.{was}
use Rattle.lnet_views.specs.Follows.{answers_in}
use Rattle.lnet_views.proofs.DepthLemmas.{depth-in-step, depth-follows, depth-visits, within}
use Rattle.lnet_views.proofs.depth.DepthViewView.after.Goals as goal

pub after-requires-clause-in_step : goal.after-requires-clause-in_step
after-requires-clause-in_step c = depth-follows _ (λ a b. refl) _ _ (answers_in c.args.self.now.follow.kept) (was c.args.event.now c.args.look.network) c.args.self.now.follow.rule c.requires.in_step

pub returns-clause-in_step : goal.returns-clause-in_step
returns-clause-in_step c = depth-in-step _ (λ a b. refl) _ _ (answers_in c.after.new.self.kept) c.args.look.network c.after.new.self.rule c.after.ensures.in_step

pub returns-clause-visits : goal.returns-clause-visits
returns-clause-visits c = within c.after.new.visits.count c.args.visits.now.count _ _ c.after.ensures.visits (depth-visits _ (λ a b. refl) _ _ (answers_in c.args.self.now.follow.kept) c.args.look.network c.args.self.now.follow.rule c.args.event.now)
