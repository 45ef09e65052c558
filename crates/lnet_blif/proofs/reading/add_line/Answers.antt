use Rattle.std.proofs.Common.{ap, arith}
use Rattle.lnet_blif.specs.Listing.{state_view, position_of, place_view, statement_view, size}
use Rattle.lnet_bliflines.specs.Words.{word_lists}
use Rattle.lnet_blif.proofs.Fitting.{fits_there}
use Rattle.lnet_blif.proofs.Sizes.{add_size}
use Rattle.lnet_blif.proofs.reading.add_line.Goals as goal

pub add-requires-clause-fits : goal.add-requires-clause-fits
add-requires-clause-fits c = fits_there c.position.result (position_of (place_view c.args.place)) (word_lists c.as_slice.result.now) (word_lists c.args.line.words.items) (statement_view c.in-Ok.statement) c.position.ensures (ap word_lists c.as_slice.ensures.value) c.requires.names c.in-Ok.ensures.value

pub returns-in_ok-add-in-Ok-clause-few_ports : goal.returns-in_ok-add-in-Ok-clause-few_ports
returns-in_ok-add-in-Ok-clause-few_ports c = omega (arith, ap size c.in_ok-add-in-Ok.ensures.value, add_size (state_view c.args.lists.now c.args.place) c.in-Ok.statement, c.in-Ok.ensures.few, c.as_slice.ensures.len)
