use Rattle.std.proofs.Common.{◌≡◌, ◌+◌, ◌++◌, List, ℕ, filter_map, flat_map, get_or, take, sym, ap, ◌∙◌}
use Rattle.std.proofs.lemmas.List.Elements.{filter_map-append}
use Rattle.lnet_export.specs.Exported.{equation_at}
use Rattle.lnet_export.proofs.RowLemmas.{flat_map-more}
use Rattle.lnet_export.proofs.equations.equations_of.Goals as goal

pub loop-row-preserved : goal.loop-row-preserved
loop-row-preserved g c =
    let N = c.args.net.now.core.network in
    let row = c.row-item.result in
    let more = flat_map-more (λ r. r) c.args.rows.now c.loop-row.row-index row c.loop-row-test.true in
    c.in_ok-add_row.ensures
    ∙ ap (λ es. es ++ filter_map (equation_at N) c.gates.result.now) c.loop-row.invariant
    ∙ ap (λ ns. filter_map (equation_at N) (flat_map (λ r. r) (take c.loop-row.row-index c.args.rows.now)) ++ filter_map (equation_at N) ns) (c.gates.ensures ∙ c.row-item.is)
    ∙ sym (ap (filter_map (equation_at N)) more ∙ filter_map-append (equation_at N) (flat_map (λ r. r) (take c.loop-row.row-index c.args.rows.now)) (get_or c.args.rows.now c.loop-row.row-index row))
