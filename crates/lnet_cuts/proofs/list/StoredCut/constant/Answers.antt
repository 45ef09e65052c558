use Rattle.std.proofs.Common.{◌∷◌, [], false}
use Rattle.lnet_cuts.proofs.TableRows.{bit_zeros}
use Rattle.lnet_cuts.proofs.KeptCuts.{stored-as, kept-zeros}
use Rattle.lnet_cuts.proofs.list.StoredCut.constant.Goals as goal

pub returns : goal.returns
returns c = stored-as c.new.result.items [] (0 ∷ 0 ∷ 0 ∷ 0 ∷ []) (λ r. false) c.new.ensures (λ r h. bit_zeros r)

pub invariant_of-result : goal.invariant_of-result
invariant_of-result c = kept-zeros c.new.result.items
