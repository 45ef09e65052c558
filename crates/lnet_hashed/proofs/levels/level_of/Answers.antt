use Rattle.std.proofs.Common.{ap, ◌∙◌}
use Rattle.std.specs.Option.{unwrap_or}
use Rattle.lnet_hashed.proofs.Greatest.{kept-level}
use Rattle.lnet_hashed.proofs.levels.level_of.Goals as goal

pub returns : goal.returns
returns c =
    c.unwrap_or.ensures
    ∙ ap (λ o. unwrap_or o 0) c.level.ensures
    ∙ kept-level c.args.store.now.network _ _ c.requires.in_step c.requires.spec c.args.n.0
