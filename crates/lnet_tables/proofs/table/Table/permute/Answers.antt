use Rattle.std.proofs.Common.{◌≡◌, ap, ◌∙◌}
use Rattle.lnet_tables.specs.Bits.{Rows, by_rows, is_set}
use Rattle.lnet_tables.proofs.Ops.{same_rows}
use Rattle.lnet_tables.proofs.table.Table.permute.Goals as goal

pub returns-in-Some : goal.returns-in-Some
returns-in-Some c =
    let v : c.self.inside.vars ≡ c.args.self.vars = ap (λ (t : Rows). t.vars) c.self.view_is in
    c.from_word.ensures ∙ ap (λ k. by_rows k (is_set c.in-Some.word)) v ∙ same_rows c.args.self.vars (is_set c.in-Some.word) _ c.in-Some.ensures.rows
