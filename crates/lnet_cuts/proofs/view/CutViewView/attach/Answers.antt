use Rattle.std.proofs.Common.{◌∙◌, sym, ap, Some}
use Rattle.std.specs.Prelude.{option_map}
use Rattle.lnet_views.specs.Follows.{answers_in}
use Rattle.lnet_cuts.specs.declared.rule.CutsByRule.{CutsByRule}
use Rattle.lnet_cuts.proofs.MadeCuts.{stored-placed}
use Rattle.lnet_cuts.proofs.ViewLemmas.{view-in-step}
use Rattle.lnet_cuts.proofs.view.CutViewView.attach.Goals as goal

pub returns-clause-in_step : goal.returns-clause-in_step
returns-clause-in_step c =
    let stored = c.live_count-live_count.ensures.stored in
    view-in-step (λ (r : CutsByRule). r.rule) (answers_in c.attach.new.self.kept) c.args.store.now.network stored.dag (stored-placed c.args.store.now.network stored) c.attach.new.self.rule
    (Some c.rule_of-rule.result)
    (sym (ap (option_map (λ (r : CutsByRule). r.rule)) c.in_ok-attach.ensures.rule ∙ ap (λ r. Some r) c.new.ensures)) c.in_ok-attach.ensures.in_step
