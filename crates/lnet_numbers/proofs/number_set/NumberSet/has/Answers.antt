use Rattle.std.proofs.Common.{ap, sym, ◌∙◌}
use Rattle.lnet_numbers.specs.Words.{bit}
use Rattle.lnet_numbers.proofs.Rooms.{bit-take}
use Rattle.lnet_numbers.proofs.number_set.NumberSet.has.Goals as goal

pub returns : goal.returns
returns c = c.has.ensures ∙ sym (bit-take c.self.inside.levels c.self.inside.room c.args.n c.self.invariant) ∙ ap (λ bits. bit bits c.args.n) c.self.view_is
