use Rattle.std.proofs.Common.{◌≡◌, ◌++◌, ◌∷◌, []}
use Rattle.std.proofs.lemmas.Result.{err_from_is_err_and}
use Rattle.std.proofs.lemmas.List.{map_push}
use Rattle.lnet_edge.specs.CircuitLists.{equation_views, equation_view}
use Rattle.lnet_aiger.specs.LineRules.{equation_line}
use Rattle.lnet_aiger.specs.Reading.{item_at}
use Rattle.lnet_aiger.proofs.Loop.{goes_on, ends, is_done}
use Rattle.lnet_aiger.proofs.reading.read_equations.Goals as goal

pub returns-in_err-item : goal.returns-in_err-item
returns-in_err-item c =
    let p = err_from_is_err_and c.from_residual.result c.from_residual.ensures.1 in
    rw (p.1, p.2) (ends (λ i. item_at (equation_line c.args.top)) c.in_err-item.field-0.0 (equation_views c.loop-place.items.items) c.args.count c.loop-place.place c.loop-place.lines _ c.loop-place-test.true c.in_err-item.ensures c.loop-place.invariant)

pub loop-place-preserved : goal.loop-place-preserved
loop-place-preserved c =
    let e : equation_views c.push.new.self.items ≡ equation_views c.loop-place.items.items ++ equation_view c.in_ok-item.item ∷ [] = rw c.in_ok-push.ensures.items (map_push equation_view c.loop-place.items.items c.in_ok-item.item) in
    rw e (goes_on (λ i. item_at (equation_line c.args.top)) (equation_views c.loop-place.items.items) c.args.count c.loop-place.place c.loop-place.lines (equation_view c.in_ok-item.item) c.read_equation.new.lines _ c.loop-place-test.true c.in_ok-item.ensures c.loop-place.invariant)

pub returns : goal.returns
returns c = is_done (λ i. item_at (equation_line c.args.top)) (equation_views c.loop-place.items.items) c.args.count c.loop-place.place c.loop-place.lines _ c.loop-place-test.false c.loop-place.invariant
