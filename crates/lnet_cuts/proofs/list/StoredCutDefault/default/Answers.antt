use Rattle.lnet_cuts.proofs.KeptCuts.{kept-zeros}
use Rattle.lnet_cuts.proofs.list.StoredCutDefault.default.Goals as goal

pub invariant_of-result : goal.invariant_of-result
invariant_of-result c = kept-zeros c.new.result.items
