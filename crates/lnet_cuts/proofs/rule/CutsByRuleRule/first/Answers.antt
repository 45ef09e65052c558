use Rattle.std.proofs.Common.{◌≡◌, ◌∙◌, ◌++◌, ◌∷◌, [], Bool, true, false, cond, eqb, ap, refl}
use Rattle.lnet_model.specs.Cuts.{CutValue, constant_cut, trivial_cut}
use Rattle.lnet_cuts.specs.Agreeing.{equal_lists_decides}
use Rattle.lnet_cuts.proofs.rule.CutsByRuleRule.first.Goals as goal

alone : (b : Bool) (c d : CutValue) → (cond b c d) ∷ [] ≡ cond b (c ∷ []) (d ∷ [])
alone true c d = refl
alone false c d = refl

pub returns : goal.returns
returns c = (equal_lists_decides _ _).1 (c.push.ensures.items ∙ ap (λ z. z ++ c.own.result ∷ []) c.new-cuts.ensures ∙ ap (λ (z : CutValue). z ∷ []) c.own.ensures
    ∙ alone (eqb c.args.n.0 0) constant_cut (trivial_cut c.args.n.0))
