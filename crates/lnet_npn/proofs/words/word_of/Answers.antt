use Rattle.lnet_npn.proofs.FirstRows.{from_rows, table_from_rows}
use Rattle.lnet_npn.proofs.words.word_of.Goals as goal

pub returns-clause-value : goal.returns-clause-value
returns-clause-value c = from_rows _ _ c.words.ensures.rows

pub returns-clause-table : goal.returns-clause-table
returns-clause-table c = table_from_rows _ _ _ c.words.ensures.table c.words.ensures.rows (from_rows _ _ c.words.ensures.rows)
