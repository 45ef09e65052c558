use Rattle.std.proofs.Common.{ap, ◌∙◌}
use Rattle.lnet_model.specs.Networks.{NetworkValue}
use Rattle.lnet_network.proofs.FirstNetwork.{first-inputs, first-outputs}
use Rattle.lnet_network.proofs.network.Network.new.Goals as goal

pub returns-clause-inputs : goal.returns-clause-inputs
returns-clause-inputs g c = ap (λ (N : NetworkValue). N.inputs) c.in_ok-core.ensures.network ∙ first-inputs g.G.Gates.KIND

pub returns-clause-outputs : goal.returns-clause-outputs
returns-clause-outputs g c = ap (λ (N : NetworkValue). N.outputs) c.in_ok-core.ensures.network ∙ first-outputs g.G.Gates.KIND
