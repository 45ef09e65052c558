use Rattle.std.proofs.Common.{sym, subst}
use Rattle.lnet_hashed.specs.Strashed.{IsStrashed}
use Rattle.lnet_network.proofs.FirstNetwork.{first-strashed}
use Rattle.lnet_network.proofs.network.Core.new.Goals as goal

pub invariant_of-result : goal.invariant_of-result
invariant_of-result g c = (subst (IsStrashed g.G.Gates.KIND) (sym c.in_ok-hashed.ensures.network) (first-strashed g.G.Gates.KIND), c.in_ok-hashed.ensures.room)
