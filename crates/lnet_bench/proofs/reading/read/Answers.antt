use Rattle.std.proofs.Common.{Err, arith}
use Rattle.lnet_bench.specs.Listing.{lists_view}
use Rattle.lnet_bench.proofs.Answering.{is_read, arities_read, few_lists, found, refused, refused_line, answers}
use Rattle.lnet_bench.proofs.reading.read.Goals as goal

pub circuit_from-requires-clause-arities : goal.circuit_from-requires-clause-arities
circuit_from-requires-clause-arities c = arities_read c.args.bytes.now (lists_view c.in-Ok.lists) (is_read c.args.bytes.now c.driven_in-driven.result (lists_view c.in-Ok.lists) c.driven_in-driven.ensures c.in-Ok.ensures)

pub circuit_from-requires-clause-few : goal.circuit_from-requires-clause-few
circuit_from-requires-clause-few c = omega (arith, c.requires, few_lists c.args.bytes.now c.in-Ok.lists (is_read c.args.bytes.now c.driven_in-driven.result (lists_view c.in-Ok.lists) c.driven_in-driven.ensures c.in-Ok.ensures))

pub circuit_from-requires-clause-few_outputs : goal.circuit_from-requires-clause-few_outputs
circuit_from-requires-clause-few_outputs c = omega (arith, c.requires, few_lists c.args.bytes.now c.in-Ok.lists (is_read c.args.bytes.now c.driven_in-driven.result (lists_view c.in-Ok.lists) c.driven_in-driven.ensures c.in-Ok.ensures))

pub returns-in-Ok-clause-found : goal.returns-in-Ok-clause-found
returns-in-Ok-clause-found c = found c.args.bytes.now (lists_view c.in-Ok.lists) c.circuit_from.result (is_read c.args.bytes.now c.driven_in-driven.result (lists_view c.in-Ok.lists) c.driven_in-driven.ensures c.in-Ok.ensures) c.circuit_from.ensures.found

pub returns-in-Ok-clause-malformed : goal.returns-in-Ok-clause-malformed
returns-in-Ok-clause-malformed c = refused c.args.bytes.now (lists_view c.in-Ok.lists) c.circuit_from.result (is_read c.args.bytes.now c.driven_in-driven.result (lists_view c.in-Ok.lists) c.driven_in-driven.ensures c.in-Ok.ensures) c.circuit_from.ensures.refused

pub returns-in-Ok-clause-only : goal.returns-in-Ok-clause-only
returns-in-Ok-clause-only c =
    let is = is_read c.args.bytes.now c.driven_in-driven.result (lists_view c.in-Ok.lists) c.driven_in-driven.ensures c.in-Ok.ensures in
    answers c.args.bytes.now c.circuit_from.result (found c.args.bytes.now (lists_view c.in-Ok.lists) c.circuit_from.result is c.circuit_from.ensures.found) (refused c.args.bytes.now (lists_view c.in-Ok.lists) c.circuit_from.result is c.circuit_from.ensures.refused)

pub returns-in-Err-clause-malformed : goal.returns-in-Err-clause-malformed
returns-in-Err-clause-malformed c = refused_line c.args.bytes.now c.driven_in-driven.result c.in-Err.error c.in-Err.ensures

pub returns-in-Err-clause-only : goal.returns-in-Err-clause-only
returns-in-Err-clause-only c = answers c.args.bytes.now (Err c.in-Err.error) tt (refused_line c.args.bytes.now c.driven_in-driven.result c.in-Err.error c.in-Err.ensures)
