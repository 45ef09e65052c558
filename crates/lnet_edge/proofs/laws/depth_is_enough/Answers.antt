use Rattle.lnet_edge.proofs.ValueLemmas.{value-deeper}
use Rattle.lnet_edge.proofs.laws.depth_is_enough.Goals as goal

pub returns : goal.returns
returns c = value-deeper
