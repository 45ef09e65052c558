use Rattle.std.proofs.Common.{◌∙◌, ◌++◌, ◌∷◌, [], ap, sym}
use Rattle.lnet_model.specs.Cuts.{best, trivial_cut}
use Rattle.lnet_cuts.specs.Candidates.{candidates_of}
use Rattle.lnet_cuts.specs.Agreeing.{equal_lists_decides}
use Rattle.lnet_cuts.proofs.Combos.{fanins-read}
use Rattle.lnet_cuts.proofs.rule.CutsByRuleRule.of.Goals as goal

pub returns : goal.returns
returns c = (equal_lists_decides _ _).1 (
    c.push.ensures.items
    ∙ ap (λ z. c.chosen-cuts.result.items ++ z ∷ []) c.trivial.ensures
    ∙ ap (λ z. z ++ trivial_cut c.args.n.0 ∷ []) (c.chosen-cuts.ensures.value
    ∙ ap (λ z. best c.args.self.now.rule.limit (candidates_of c.args.self.now.rule.size c.args.gate.now z)) (sym (fanins-read c.args.values.now c.args.gate.now.fanins)))
    )
