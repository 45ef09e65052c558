use Rattle.std.proofs.Common.{ap, ◌∙◌}
use Rattle.std.specs.Prelude.{map}
use Rattle.lnet_wires.proofs.NameLists.{seen_by}
use Rattle.lnet_naming.proofs.NameFacts.{fresh_by}
use Rattle.lnet_naming.proofs.kept.Kept.keep.Goals as goal

pub returns-clause-fresh : goal.returns-clause-fresh
returns-clause-fresh c = c.in_ok-fresh.ensures.added ∙ fresh_by (λ name. name.now) c.args.name c.self.inside.names.keys c.args.self.now c.self.view_is

pub returns-clause-kept : goal.returns-clause-kept
returns-clause-kept c = ap (λ ks. map (λ name. name.now) ks) c.in_ok-fresh.ensures.keys ∙ seen_by (λ name. name.now) c.args.name c.self.inside.names.keys c.args.self.now c.self.view_is
