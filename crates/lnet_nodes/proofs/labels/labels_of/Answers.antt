use Rattle.std.proofs.Common.{ap}
use Rattle.lnet_nodes.specs.Nodes.{name_at}
use Rattle.lnet_nodes.proofs.labels.labels_of.Goals as goal

pub returns : goal.returns
returns c = λ w. ap (name_at c.args.names.items) (c.in_ok-places.ensures w)
