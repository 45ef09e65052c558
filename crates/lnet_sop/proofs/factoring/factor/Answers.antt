use Rattle.std.proofs.Common.{◌≡◌, ap, ◌∙◌, rules, subst}
use Rattle.std.specs.Prelude.{All}
use Rattle.lnet_tables.specs.Recipes.{sim}
use Rattle.lnet_sop.specs.Covers.{CoverValue, IsCube}
use Rattle.lnet_sop.specs.Factored.{factored_of}
use Rattle.lnet_sop.proofs.FormMeans.{factored_function}
use Rattle.lnet_sop.proofs.factoring.factor.Goals as goal

pub returns-clause-function : goal.returns-clause-function
returns-clause-function c =
    let e : c.set_root.new.self ≡ factored_of c.args.cover.now = search rules in
    ap sim e ∙ factored_function c.args.cover.now (subst (λ (x : CoverValue). All (IsCube x.vars) x.cubes) c.cover.view_is c.cover.invariant.each)
