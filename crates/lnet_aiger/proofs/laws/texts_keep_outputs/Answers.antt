use Rattle.lnet_aiger.proofs.TextMeans.{ascii_means, binary_means}
use Rattle.lnet_aiger.proofs.laws.texts_keep_outputs.Goals as goal

pub returns-clause-ascii : goal.returns-clause-ascii
returns-clause-ascii c = ascii_means

pub returns-clause-binary : goal.returns-clause-binary
returns-clause-binary c = binary_means
