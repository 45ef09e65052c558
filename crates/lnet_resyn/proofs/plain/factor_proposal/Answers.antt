use Rattle.std.proofs.Common.{◌≤◌, ◌<◌, Err, refl, ap, subst, ◌∙◌, length}
use Rattle.lnet_sop.specs.Covers.{CoverValue}
use Rattle.lnet_sop.specs.Factored.{factored_of}
use Rattle.lnet_resyn.proofs.Proposals.{used, unused, cover-between}
use Rattle.lnet_resyn.proofs.plain.factor_proposal.Goals as goal

pub returns-in-Ok-factor-clause-recipe : goal.returns-in-Ok-factor-clause-recipe
returns-in-Ok-factor-clause-recipe c = λ _. used _ _ (c.in-Ok-factor.ensures.form ∙ ap factored_of c.in-Ok.ensures.cubes) (subst (λ (d : CoverValue). length (factored_of d).steps ≤ 128) c.in-Ok.ensures.cubes (c.in-Ok-factor.ensures.fits refl))

pub returns-in-Ok-factor-clause-function : goal.returns-in-Ok-factor-clause-function
returns-in-Ok-factor-clause-function c = c.in-Ok-factor.ensures.function ∙ cover-between c.args.table c.in-Ok.cover c.vars-vars.ensures.long c.in-Ok.ensures.cubes c.in-Ok.ensures.due c.in-Ok.ensures.within

pub returns-in-Err-Full-clause-recipe : goal.returns-in-Err-Full-clause-recipe
returns-in-Err-Full-clause-recipe c = λ _. unused _ (subst (λ (d : CoverValue). 128 < length (factored_of d).steps) c.in-Ok.ensures.cubes (c.in-Err-Full.ensures.full (ap Err c.in-Err-Full.field-0-is)))
