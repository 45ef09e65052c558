use Rattle.std.proofs.lemmas.Result.{err_from_is_err_and}
use Rattle.lnet_aiger.specs.LineRules.{output_line}
use Rattle.lnet_aiger.specs.Reading.{item_at}
use Rattle.lnet_aiger.proofs.Loop.{goes_on, ends, is_done}
use Rattle.lnet_aiger.proofs.reading.read_outputs.Goals as goal

pub returns-in_err-item : goal.returns-in_err-item
returns-in_err-item c =
    let p = err_from_is_err_and c.from_residual.result c.from_residual.ensures.1 in
    rw (p.1, p.2) (ends (λ i. item_at (output_line c.args.top)) c.in_err-item.field-0.0 c.loop-place.items.items c.args.count c.loop-place.place c.loop-place.lines _ c.loop-place-test.true c.in_err-item.ensures c.loop-place.invariant)

pub loop-place-preserved : goal.loop-place-preserved
loop-place-preserved c =
    rw c.in_ok-push.ensures.items (goes_on (λ i. item_at (output_line c.args.top)) c.loop-place.items.items c.args.count c.loop-place.place c.loop-place.lines c.in_ok-item.item c.read_output.new.lines _ c.loop-place-test.true c.in_ok-item.ensures c.loop-place.invariant)

pub returns : goal.returns
returns c = is_done (λ i. item_at (output_line c.args.top)) c.loop-place.items.items c.args.count c.loop-place.place c.loop-place.lines _ c.loop-place-test.false c.loop-place.invariant
