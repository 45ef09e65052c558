use Rattle.lnet_tables.specs.WholeTables.{step_rows}
use Rattle.lnet_tables.proofs.recipe.step_table.Goals as goal

pub returns-in-And-clause-value : goal.returns-in-And-clause-value
unfolding step_rows
returns-in-And-clause-value c = rw (c.in-And.is, ← c.lit_table-a.ensures.value, ← c.lit_table-b.ensures.value) c.and.ensures

pub returns-in-Xor-clause-value : goal.returns-in-Xor-clause-value
unfolding step_rows
returns-in-Xor-clause-value c = rw (c.in-Xor.is, ← c.lit_table-a.ensures.value, ← c.lit_table-b.ensures.value) c.xor.ensures

pub returns-in-Maj-clause-value : goal.returns-in-Maj-clause-value
unfolding step_rows
returns-in-Maj-clause-value c = rw (c.in-Maj.is, ← c.lit_table-a.ensures.value, ← c.lit_table-b.ensures.value, ← c.lit_table-c.ensures.value) c.maj_table.ensures
