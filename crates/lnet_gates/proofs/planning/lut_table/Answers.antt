use Rattle.std.proofs.Common.{refl, ◌∙◌}
use Rattle.lnet_gates.proofs.Underway.{lut_words}
use Rattle.lnet_gates.proofs.planning.lut_table.Goals as goal

pub returns : goal.returns
returns c = c.from_words.ensures ∙ lut_words _ c.args.arity c.args.table refl c.requires
