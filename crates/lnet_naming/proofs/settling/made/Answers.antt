use Rattle.std.proofs.Common.{sym, subst, arith}
use Rattle.lnet_edge.specs.Names.{IsName}
use Rattle.lnet_naming.proofs.NameFacts.{side_is}
use Rattle.lnet_naming.proofs.settling.made.Goals as goal

pub new-requires : goal.new-requires
new-requires c = subst IsName (sym c.in_ok-made_text.ensures) (side_is c.args.side c.args.place (omega arith))
