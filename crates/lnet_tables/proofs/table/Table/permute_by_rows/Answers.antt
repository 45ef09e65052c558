use Rattle.std.proofs.Common.{rules, ap, ◌∙◌, ℕ, ◌^◌}
use Rattle.lnet_tables.specs.Bits.{Rows}
use Rattle.lnet_tables.proofs.Rowwise.{told_by_rows}
use Rattle.lnet_tables.proofs.table.Table.permute_by_rows.Goals as goal

pub returns : goal.returns
returns c =
    let e = ap (λ (t : Rows). t.vars) c.self.view_is in
    told_by_rows c.by_test.result c.args.self.vars _ (c.by_test.ensures.vars ∙ e) (c.by_test.ensures.long ∙ ap (λ (n : ℕ). 2 ^ n) e) (λ r lt. let h = c.by_test.ensures.rows r (rw e lt) in search rules)
