use Rattle.std.proofs.Common.{ap, ◌∙◌}
use Rattle.lnet_tables.specs.Bits.{Rows, not_rows, and_rows}
use Rattle.lnet_sop.proofs.TableRows.{or_is}
use Rattle.lnet_sop.proofs.covering.or.Goals as goal

pub returns-clause-rows : goal.returns-clause-rows
returns-clause-rows c =
    c.not-3.ensures ∙ ap not_rows (c.and.ensures
    ∙ ap (λ (x : Rows). and_rows x c.not-2.result) c.not.ensures ∙ ap (λ (x : Rows). and_rows (not_rows c.args.a) x) c.not-2.ensures)
    ∙ or_is c.args.a c.args.b c.requires
