use Rattle.std.proofs.Common.{ap, not, ◌∙◌}
use Rattle.lnet_tables.proofs.Ops.{set_not}
use Rattle.lnet_tables.proofs.masks.low_rows.Goals as goal

pub returns : goal.returns
returns c = λ r lt. set_not c.high_rows.result r c.high_rows.type_inv lt ∙ ap not (c.high_rows.ensures r lt)
