use Rattle.std.proofs.Common.{◌≡◌, false}
use Rattle.lnet_model.specs.Networks.{Constant}
use Rattle.lnet_model.specs.Values.{value_step, node_value}
use Rattle.lnet_model.specs.Cuts.{cut_meaning, cuts}
use Rattle.lnet_cuts.proofs.Items.{all-of}
use Rattle.lnet_cuts.proofs.Meaning.{cuts-sound, over-at}
use Rattle.lnet_cuts.proofs.laws.cuts_have_their_values.Goals as goal

pub returns : goal.returns
returns c = λ N a size limit n acyclic whole.
    all-of (λ c. cut_meaning (node_value N a) c ≡ node_value N a n) (cuts N size limit n) (cuts-sound N a size limit acyclic (over-at N (value_step a) false acyclic 0 Constant whole.first) n)
