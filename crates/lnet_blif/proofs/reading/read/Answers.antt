use Rattle.std.proofs.Common.{Err}
use Rattle.lnet_blif.specs.Listing.{lists_view}
use Rattle.lnet_blif.proofs.Answering.{is_read, found, refused, refused_line, answers}
use Rattle.lnet_blif.proofs.reading.read.Goals as goal

pub circuit_from-requires-clause-arities : goal.circuit_from-requires-clause-arities
circuit_from-requires-clause-arities c = (is_read c.args.bytes.now (lists_view c.in-Ok.lists) c.in-Ok.ensures.value).arities

pub returns-in-Ok-clause-found : goal.returns-in-Ok-clause-found
returns-in-Ok-clause-found c = found c.args.bytes.now (lists_view c.in-Ok.lists) c.circuit_from.result (is_read c.args.bytes.now (lists_view c.in-Ok.lists) c.in-Ok.ensures.value) c.circuit_from.ensures.found

pub returns-in-Ok-clause-malformed : goal.returns-in-Ok-clause-malformed
returns-in-Ok-clause-malformed c = refused c.args.bytes.now (lists_view c.in-Ok.lists) c.circuit_from.result (is_read c.args.bytes.now (lists_view c.in-Ok.lists) c.in-Ok.ensures.value) c.circuit_from.ensures.refused

pub returns-in-Ok-clause-only : goal.returns-in-Ok-clause-only
returns-in-Ok-clause-only c =
    let is = is_read c.args.bytes.now (lists_view c.in-Ok.lists) c.in-Ok.ensures.value in
    answers c.args.bytes.now c.circuit_from.result (found c.args.bytes.now (lists_view c.in-Ok.lists) c.circuit_from.result is c.circuit_from.ensures.found) (refused c.args.bytes.now (lists_view c.in-Ok.lists) c.circuit_from.result is c.circuit_from.ensures.refused)

pub returns-in-Err-clause-malformed : goal.returns-in-Err-clause-malformed
returns-in-Err-clause-malformed c = refused_line c.args.bytes.now c.in-Err.error c.in-Err.ensures.value

pub returns-in-Err-clause-only : goal.returns-in-Err-clause-only
returns-in-Err-clause-only c = answers c.args.bytes.now (Err c.in-Err.error) tt (refused_line c.args.bytes.now c.in-Err.error c.in-Err.ensures.value)
