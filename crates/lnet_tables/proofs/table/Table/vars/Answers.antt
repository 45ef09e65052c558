use Rattle.lnet_tables.specs.Words.{word_bit}
use Rattle.lnet_tables.proofs.Rowwise.{rows_long}
use Rattle.lnet_tables.proofs.table.Table.vars.Goals as goal

pub returns-clause-long : goal.returns-clause-long
returns-clause-long c = rw (← c.self.view_is) (rows_long c.self.inside.vars (word_bit c.self.inside.words))
