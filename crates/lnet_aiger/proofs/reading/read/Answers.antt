use Rattle.std.proofs.Common.{◌≡◌, Ok, length, sym, ◌∙◌, ap, arith}
use Rattle.std.proofs.lemmas.Result.{err_from_is_err_and}
use Rattle.std.proofs.lemmas.List.{length-map}
use Rattle.lnet_edge.specs.CircuitLists.{equation_view, equation_views}
use Rattle.lnet_edge.specs.Circuits.{CircuitValue}
use Rattle.lnet_aiger.specs.Views.{parts_view}
use Rattle.lnet_aiger.proofs.Content.{content_takes}
use Rattle.lnet_aiger.proofs.Limits.{spelled_arities, spelled_few}
use Rattle.lnet_aiger.proofs.Refused.{reading_rejects, circuit_rejects, is_found, is_only, fails_meant, broken_meant}
use Rattle.lnet_aiger.proofs.reading.read.Goals as goal

pub returns-in_err-parts-clause-malformed : goal.returns-in_err-parts-clause-malformed
returns-in_err-parts-clause-malformed c =
    let p = err_from_is_err_and c.from_residual.result c.from_residual.ensures.1 in
    rw (p.1, p.2) (reading_rejects c.args.bytes.now c.in_err-parts.field-0.0 c.in_err-parts.ensures)

pub returns-in_err-parts-clause-only : goal.returns-in_err-parts-clause-only
returns-in_err-parts-clause-only c =
    let p = err_from_is_err_and c.from_residual.result c.from_residual.ensures.1 in
    rw (p.1, p.2) (λ d means. fails_meant c.args.bytes.now d c.in_err-parts.field-0.0 c.in_err-parts.ensures means)

pub new-requires-clause-arities : goal.new-requires-clause-arities
new-requires-clause-arities c = spelled_arities c.args.bytes.now (parts_view c.in_ok-parts.parts) (content_takes c.args.bytes.now (parts_view c.in_ok-parts.parts) c.in_ok-parts.ensures)

pub new-requires-clause-few : goal.new-requires-clause-few
new-requires-clause-few c =
    let few = (spelled_few c.args.bytes.now (parts_view c.in_ok-parts.parts) (content_takes c.args.bytes.now (parts_view c.in_ok-parts.parts) c.in_ok-parts.ensures)).0 in
    let len : length (equation_views c.in_ok-parts.parts.equations.items) ≡ length c.in_ok-parts.parts.equations.items = length-map c.in_ok-parts.parts.equations.items equation_view in
    omega (arith, few, len)

pub new-requires-clause-few_outputs : goal.new-requires-clause-few_outputs
new-requires-clause-few_outputs c = (spelled_few c.args.bytes.now (parts_view c.in_ok-parts.parts) (content_takes c.args.bytes.now (parts_view c.in_ok-parts.parts) c.in_ok-parts.ensures)).1

pub returns-in-Ok-clause-found : goal.returns-in-Ok-clause-found
returns-in-Ok-clause-found c = is_found c.args.bytes.now c.in-Ok.circuit (c.in_ok-parts.ensures ∙ ap (λ (d : CircuitValue). Ok d) (sym c.in-Ok.ensures.lists)) c.in-Ok.ensures.circuit

pub returns-in-Ok-clause-only : goal.returns-in-Ok-clause-only
returns-in-Ok-clause-only c = λ d means. ap (λ (x : CircuitValue). Ok x) (is_only c.args.bytes.now c.in-Ok.circuit d (c.in_ok-parts.ensures ∙ ap (λ (d : CircuitValue). Ok d) (sym c.in-Ok.ensures.lists)) means)

pub returns-in-Err-Fault-clause-malformed : goal.returns-in-Err-Fault-clause-malformed
returns-in-Err-Fault-clause-malformed c = rw c.malformed.ensures (circuit_rejects c.args.bytes.now (parts_view c.in_ok-parts.parts) c.in-Err-Fault.kind c.in_ok-parts.ensures (rw c.in-Err-Fault.field-0-is at c.in-Err-Fault.ensures.refused))

pub returns-in-Err-Fault-clause-only : goal.returns-in-Err-Fault-clause-only
returns-in-Err-Fault-clause-only c = λ d means. absurd (broken_meant c.args.bytes.now (parts_view c.in_ok-parts.parts) d c.in-Err-Fault.kind c.in_ok-parts.ensures (rw c.in-Err-Fault.field-0-is at c.in-Err-Fault.ensures.refused) means)
