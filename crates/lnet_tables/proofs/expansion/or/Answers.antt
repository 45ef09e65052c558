use Rattle.std.proofs.Common.{ap, ◌∙◌}
use Rattle.lnet_tables.specs.Shannon.{other}
use Rattle.lnet_tables.proofs.ShannonSteps.{other_plain}
use Rattle.lnet_tables.proofs.expansion.or.Goals as goal

pub returns-clause-root : goal.returns-clause-root
returns-clause-root c = c.complement-3.ensures.value ∙ ap other c.in_ok-lit.ensures.lit ∙ other_plain _
