use Rattle.std.proofs.Common.{◌+◌, ℕ, ap, ◌∙◌}
use Rattle.std.specs.Prelude.{map}
use Rattle.lnet_wires.proofs.NameLists.{wire_by, seen_by}
use Rattle.lnet_wires.proofs.Wires.wire.Goals as goal

pub returns-clause-number : goal.returns-clause-number
returns-clause-number c = ap (λ (n : ℕ). n + 1) c.in_ok-place.ensures.index ∙ wire_by (λ name. name.now) c.args.name c.self.inside.names.keys c.args.self.now c.self.view_is

pub returns-clause-seen : goal.returns-clause-seen
returns-clause-seen c = ap (λ ks. map (λ name. name.now) ks) c.in_ok-place.ensures.keys ∙ seen_by (λ name. name.now) c.args.name c.self.inside.names.keys c.args.self.now c.self.view_is
