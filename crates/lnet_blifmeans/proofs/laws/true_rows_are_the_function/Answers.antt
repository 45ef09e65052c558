use Rattle.lnet_blifmeans.proofs.CoverRows.{rows_value}
use Rattle.lnet_blifmeans.proofs.laws.true_rows_are_the_function.Goals as goal

pub returns : goal.returns
returns c = λ value k bits same. rows_value value k bits same
