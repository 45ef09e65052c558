use Rattle.std.proofs.Common.{ap, sym, ◌∙◌, ℕ, ◌≡◌, List}
use Rattle.lnet_tables.specs.Bits.{Rows, row, support_of, moved, by_rows}
use Rattle.lnet_tables.specs.Kept.{rank, spread, padded, places}
use Rattle.lnet_tables.proofs.Shrunk.{shrunk_row}
use Rattle.lnet_tables.proofs.table.Table.shrink.Goals as goal

pub returns-clause-table : goal.returns-clause-table
returns-clause-table c =
    c.kept_table.ensures ∙ ap (λ m. by_rows (rank m c.args.self.vars) (λ r. row c.args.self (spread r m c.args.self.vars))) c.support-support.ensures.value

pub returns-clause-same : goal.returns-clause-same
returns-clause-same c = λ r lt.
    let v : c.self.inside.vars ≡ c.args.self.vars = ap (λ (t : Rows). t.vars) c.self.view_is in
    let names : c.set_places.result ≡ padded (places (support_of c.args.self) c.args.self.vars) =
    c.set_places.ensures ∙ ap (λ k. padded (places k c.self.inside.vars)) c.support-support.ensures.value
    ∙ ap (λ k. padded (places (support_of c.args.self) k)) v in
    shrunk_row c.args.self r lt
    ∙ sym (ap (λ (t : Rows). row t (moved r (padded (places (support_of c.args.self) c.args.self.vars)) t.vars)) (returns-clause-table c))
    ∙ sym (ap (λ (ks : List ℕ). row c.kept_table.result (moved r ks c.kept_table.result.vars)) names)
