use Rattle.std.proofs.Common.{sym, subst, ◌∙◌}
use Rattle.std.proofs.lemmas.Str.{IsUtf8-from_ascii}
use Rattle.lnet_edge.specs.Names.{IsName}
use Rattle.lnet_blif.proofs.NameBytes.{name_is, name_ascii}
use Rattle.lnet_blif.proofs.listing.port_name.Goals as goal

pub new-requires : goal.new-requires
new-requires c =
    let same = c.in_ok-from_str-in-Ok.ensures.ok ∙ c.in-Ok.ensures.cases.0 in
    subst IsName (sym same) (name_is c.args.name.now c.requires)

pub unreachable-requires : goal.unreachable-requires
unreachable-requires c = c.in-Err.ensures.cases.0 (IsUtf8-from_ascii c.args.name.now (name_ascii c.args.name.now c.requires))
