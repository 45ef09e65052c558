use Rattle.std.proofs.Common.{sym}
use Rattle.lnet_tables.specs.Inverse.{any_row, same_words}
use Rattle.lnet_tables.proofs.table.Table.words.Goals as goal

pub returns-clause-value : goal.returns-clause-value
returns-clause-value c = rw (← c.self.view_is) (sym (same_words c.self.inside.vars c.self.inside.words c.self.invariant))

pub returns-clause-rows : goal.returns-clause-rows
returns-clause-rows c = λ r. rw (← c.self.view_is) (sym (any_row c.self.inside.vars c.self.inside.words c.self.invariant r))
