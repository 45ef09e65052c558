use Rattle.std.proofs.Common.{◌<◌, List, ℕ, length, subst, sym, IsTrue}
use Rattle.std.specs.List.{list_all}
use Rattle.lnet_edge.specs.Covers.{CoverValue, is_cell, is_row}
use Rattle.lnet_edge.proofs.CoverRowLemmas.{list_all-map-get_or}
use Rattle.lnet_edge.proofs.cover.CoverRows.row.Goals as goal

pub returns-clause-cells : goal.returns-clause-cells
returns-clause-cells c =
    subst (λ (bytes : List ℕ). IsTrue (list_all is_cell bytes)) (sym c.as_slice.ensures)
    (subst (λ (r : _). IsTrue (is_row r.items)) (sym c.index.ensures)
    (list_all-map-get_or is_row (λ r. r.items) c.self.inside.rows.items c.args.i c.index.result.now c.self.invariant
    (subst (λ (v : CoverValue). c.args.i < length v.rows) (sym c.self.view_is) c.requires)))
