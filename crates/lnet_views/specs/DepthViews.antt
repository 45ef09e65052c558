-- A depth view as the trait of the views sees it.
use Rattle.std.specs.Prelude.{ℕ, option_map, Option}
use Rattle.lnet_model.specs.Answers.{Answer, Level}
use Rattle.lnet_model.specs.declared.view_spec.ViewSpec.{ViewSpec}
use Rattle.lnet_model.specs.declared.view_spec.ViewSpec.TheVariants.{Depth}

-- attached for levels where there is a rule
abbrev pub depth_spec : {R : Type 0} → Option R → Option ViewSpec
depth_spec rule = option_map (λ _. Depth) rule

-- the levels of what is kept
abbrev pub levels_in : {V : Type 0} → (ℕ → Option (V × ℕ)) → ℕ → Option Answer
levels_in kept n = option_map (λ a. Level a.1) (kept n)
