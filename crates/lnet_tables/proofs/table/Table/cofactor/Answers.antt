use Rattle.std.proofs.Common.{◌∙◌, sym}
use Rattle.lnet_tables.specs.Bits.{with_bit}
use Rattle.lnet_tables.specs.Inverse.{any_row}
use Rattle.lnet_tables.proofs.Ops.{same_rows}
use Rattle.lnet_tables.proofs.table.Table.cofactor.Goals as goal

pub returns : goal.returns
returns c =
    rw (← c.self.view_is) (c.from_words.ensures ∙ same_rows c.self.inside.vars _ _ (λ r lt.
    c.cofactor_words.ensures r lt ∙ sym (any_row c.self.inside.vars c.self.inside.words c.self.invariant (with_bit r c.args.index c.args.value))))
