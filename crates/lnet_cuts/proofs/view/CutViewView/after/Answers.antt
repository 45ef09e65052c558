use Rattle.std.proofs.Common.{◌∙◌, sym, ap}
use Rattle.std.specs.Prelude.{option_map}
use Rattle.lnet_model.specs.Changes.{was}
use Rattle.lnet_views.specs.Follows.{answers_in}
use Rattle.lnet_views.proofs.DepthLemmas.{within}
use Rattle.lnet_cuts.specs.declared.rule.CutsByRule.{CutsByRule}
use Rattle.lnet_cuts.proofs.MadeCuts.{stored-placed, was-placed}
use Rattle.lnet_cuts.proofs.ViewLemmas.{view-in-step, view-follows, view-visits}
use Rattle.lnet_cuts.proofs.view.CutViewView.after.Goals as goal

pub after-requires-clause-in_step : goal.after-requires-clause-in_step
after-requires-clause-in_step c = view-follows (λ (r : CutsByRule). r.rule) (answers_in c.args.self.now.follow.kept) (was c.args.event.now c.args.look.network) c.requires.before
    (was-placed c.args.event.now c.args.look.network (stored-placed c.args.look.network c.live_count-live_count.ensures.stored)) c.args.self.now.follow.rule c.args.self.now.rule
    c.args.self.now.same c.requires.in_step

pub returns-clause-in_step : goal.returns-clause-in_step
returns-clause-in_step c =
    let stored = c.live_count-live_count.ensures.stored in
    view-in-step (λ (r : CutsByRule). r.rule) (answers_in c.after.new.self.kept) c.args.look.network stored.dag (stored-placed c.args.look.network stored) c.after.new.self.rule c.args.self.now.rule
    (c.args.self.now.same ∙ ap (option_map (λ (r : CutsByRule). r.rule)) (sym c.after.ensures.rule)) c.after.ensures.in_step

pub returns-clause-visits : goal.returns-clause-visits
returns-clause-visits c =
    let stored = c.live_count-live_count.ensures.stored in
    within c.after.new.visits.count c.args.visits.now.count _ _ c.after.ensures.visits
    (view-visits (λ (r : CutsByRule). r.rule) (answers_in c.args.self.now.follow.kept) c.args.event.now c.args.look.network c.requires.before stored.dag
    (stored-placed c.args.look.network stored) c.args.self.now.follow.rule c.args.self.now.rule c.args.self.now.same)
