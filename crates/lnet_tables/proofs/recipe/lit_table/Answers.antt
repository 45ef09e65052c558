use Rattle.std.proofs.Common.{refl, eq-eqb, ◌/◌}
use Rattle.std.proofs.lemmas.List.{get_or_read}
use Rattle.std.proofs.lemmas.Bool.{ne_eqb}
use Rattle.lnet_tables.specs.WholeTables.{lit_rows, nothing}
use Rattle.lnet_tables.proofs.recipe.lit_table.Goals as goal

pub returns-then-lit-eq1-clause-value : goal.returns-then-lit-eq1-clause-value
unfolding lit_rows
returns-then-lit-eq1-clause-value c =
    let at = get_or_read c.args.tables.now (c.args.lit.0 / 2) c.index-tables-lit.result c.requires.inside c.index-tables-lit.is nothing in
    rw (eq-eqb _ _ c.if-lit-eq1.true, ← at) c.not.ensures

pub returns-else-lit-eq1-clause-value : goal.returns-else-lit-eq1-clause-value
unfolding lit_rows
returns-else-lit-eq1-clause-value c =
    let at = get_or_read c.args.tables.now (c.args.lit.0 / 2) c.index-tables-lit.result c.requires.inside c.index-tables-lit.is nothing in
    rw (ne_eqb _ _ c.if-lit-eq1.false, ← at) refl
