use Rattle.std.proofs.Common.{◌∙◌, arith, sym, ap, not}
use Rattle.lnet_tables.specs.Inverse.{any_row}
use Rattle.lnet_tables.proofs.Ops.{same_rows, bit_map_not}
use Rattle.lnet_tables.proofs.Constants.{few_rows}
use Rattle.lnet_tables.proofs.table.Table.not.Goals as goal

pub returns : goal.returns
returns c =
    rw (← c.self.view_is) (c.from_words.ensures ∙ same_rows _ _ _ (λ r lt.
    bit_map_not c.self.inside.words c.self.invariant.sixteen c.self.invariant.words r (omega (arith, few_rows c.self.inside.vars c.self.invariant.few))
    ∙ ap not (sym (any_row c.self.inside.vars c.self.inside.words c.self.invariant r))))
