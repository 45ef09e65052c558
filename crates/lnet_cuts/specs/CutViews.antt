-- A cut view as the trait of the views sees it.
use Rattle.std.specs.Prelude.{ℕ, List, option_map, Option}
use Rattle.lnet_model.specs.Cuts.{CutValue}
use Rattle.lnet_model.specs.Answers.{Answer, CutList}
use Rattle.lnet_model.specs.declared.view_spec.CutRule.{CutRule}
use Rattle.lnet_model.specs.declared.view_spec.ViewSpec.{ViewSpec}
use Rattle.lnet_model.specs.declared.view_spec.ViewSpec.TheVariants.{Cuts}

-- attached for the cuts by the rule where there is one
abbrev pub cut_spec : Option CutRule → Option ViewSpec
cut_spec rule = option_map (λ r. Cuts r) rule

-- the levels and the cut lists of what is kept
abbrev pub lists_in : (ℕ → Option (List CutValue × ℕ)) → ℕ → Option Answer
lists_in kept n = option_map (λ a. CutList a.1 a.0) (kept n)
