use Rattle.lnet_bench.specs.Statements.{statement_view}
use Rattle.lnet_bench.proofs.Fitting.{statement_fits}
use Rattle.lnet_bench.proofs.reading.add_line.Goals as goal

pub add-requires-clause-fits : goal.add-requires-clause-fits
add-requires-clause-fits c = statement_fits c.uncommented-text.result.now (statement_view c.in-Ok.statement) c.in-Ok.ensures.value
