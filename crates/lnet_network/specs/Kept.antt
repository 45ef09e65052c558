-- What is read of the answers that the view of a slot keeps.
use Rattle.std.specs.Prelude.{ℕ, Option, None, Some}
use Rattle.lnet_model.specs.Answers.{Answer, level_in}

-- the level of what a slot's view keeps for a node, where there is a view and it keeps a level
abbrev pub level_kept : Option (Option Answer) → Option ℕ
level_kept None = None
level_kept (Some answer) = level_in answer
