use Rattle.std.proofs.Common.{◌≡◌, ◌+◌, ◌++◌, ◌∷◌, [], filter_map, option_map, get_or, take, vec_items, None, Some, sym, ap, ◌∙◌}
use Rattle.std.specs.List.{cons_option}
use Rattle.lnet_edge.specs.CircuitLists.{equation_view, equation_views}
use Rattle.lnet_export.specs.Exported.{equation_at, equation_in}
use Rattle.lnet_export.proofs.RowLemmas.{filter_map-more, views-more, grown, same_grown}
use Rattle.lnet_export.proofs.equations.add_row.Goals as goal
use Rattle.lnet_export.proofs.equations.add_row.Goals.{in-Some+in_ok-equation_of+in_ok-push, in_default}

pub loop-n-preserved : goal.loop-n-preserved
loop-n-preserved g c = elim c.match-gate_of.branch [
  | in-Some+in_ok-equation_of+in_ok-push w ↦
      let N = c.args.net.now.core.network in
      let n = get_or c.args.gates.now c.loop-n.n-index 0 in
      let e = w.in_ok-equation_of.field-0 in
      let found = ap (option_map (equation_in N n)) (sym w.in-Some.ensures) in
      let here = ap (λ o. cons_option o []) found ∙ ap (λ x. x ∷ []) (sym w.in_ok-equation_of.ensures) in
      let more = filter_map-more (equation_at N) c.args.gates.now c.loop-n.n-index 0 c.loop-n-test.true ∙ ap (λ es. filter_map (equation_at N) (take c.loop-n.n-index c.args.gates.now) ++ es) here in
      let now = ap equation_views (ap vec_items w.equations-is ∙ w.in_ok-push.ensures.items) ∙ views-more c.loop-n.equations.items e in
      grown (equation_views c.args.equations.now.items) (equation_views c.loop-n.equations.items) (equation_views c.match-gate_of.equations.items) (filter_map (equation_at N) (take c.loop-n.n-index c.args.gates.now)) (filter_map (equation_at N) (take (c.loop-n.n-index + 1) c.args.gates.now)) (equation_view e ∷ [])
      c.loop-n.invariant now more
  | in_default w ↦
      let N = c.args.net.now.core.network in
      let n = get_or c.args.gates.now c.loop-n.n-index 0 in
      let none = ap (λ o. cons_option (option_map (equation_in N n) o) []) (sym w.in_default.ensures) in
      let more = filter_map-more (equation_at N) c.args.gates.now c.loop-n.n-index 0 c.loop-n-test.true ∙ ap (λ es. filter_map (equation_at N) (take c.loop-n.n-index c.args.gates.now) ++ es) none in
      same_grown (equation_views c.args.equations.now.items) (equation_views c.loop-n.equations.items) (equation_views c.match-gate_of.equations.items) (filter_map (equation_at N) (take c.loop-n.n-index c.args.gates.now)) (filter_map (equation_at N) (take (c.loop-n.n-index + 1) c.args.gates.now))
      c.loop-n.invariant (ap equation_views (ap vec_items w.equations-is)) more
]
