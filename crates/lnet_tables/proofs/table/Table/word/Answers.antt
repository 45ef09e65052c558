use Rattle.std.proofs.Common.{sym, ◌∙◌}
use Rattle.lnet_tables.proofs.WordRows.{first_row}
use Rattle.lnet_tables.specs.Inverse.{any_row}
use Rattle.lnet_tables.proofs.table.Table.word.Goals as goal

pub returns : goal.returns
returns c = λ r lt.
    rw (← c.self.view_is) (sym (any_row c.self.inside.vars c.self.inside.words c.self.invariant r ∙ first_row c.self.inside.words r lt))
