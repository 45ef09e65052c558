use Rattle.std.proofs.Common.{◌<◌, ◌∙◌, ap, set, take, false, length, length-take, arith}
use Rattle.lnet_numbers.proofs.Rooms.{take-set_any, IsWithin-set}
use Rattle.lnet_numbers.proofs.number_set.NumberSet.remove.Goals as goal

pub clear-requires : goal.clear-requires
clear-requires c = omega (arith, ap length c.self.view_is, c.requires, length-take c.self.inside.room c.self.inside.levels)

pub invariant_of-self : goal.invariant_of-self
invariant_of-self c =
    let inside : c.args.n < c.self.inside.room =
    omega (arith, ap length c.self.view_is, c.requires, length-take c.self.inside.room c.self.inside.levels) in
    rw c.clear.ensures (IsWithin-set c.self.inside.levels c.self.inside.room c.args.n false c.self.invariant inside)

pub returns : goal.returns
returns c =
    ap (λ bits. take c.self.inside.room bits) c.clear.ensures ∙ take-set_any c.self.inside.room c.self.inside.levels c.args.n false ∙ ap
    (λ bits. set bits c.args.n false) c.self.view_is
