use Rattle.std.proofs.Common.{◌<◌, ◌∙◌, ap, set, take, true, length, length-take, arith}
use Rattle.lnet_numbers.proofs.Rooms.{take-set_any, IsWithin-set}
use Rattle.lnet_numbers.proofs.number_set.NumberSet.insert.Goals as goal

pub set-requires : goal.set-requires
set-requires c = omega (arith, ap length c.self.view_is, c.requires, length-take c.self.inside.room c.self.inside.levels)

pub invariant_of-self : goal.invariant_of-self
invariant_of-self c =
    let inside : c.args.n < c.self.inside.room =
    omega (arith, ap length c.self.view_is, c.requires, length-take c.self.inside.room c.self.inside.levels) in
    rw c.set.ensures (IsWithin-set c.self.inside.levels c.self.inside.room c.args.n true c.self.invariant inside)

pub returns : goal.returns
returns c =
    ap (λ bits. take c.self.inside.room bits) c.set.ensures ∙ take-set_any c.self.inside.room c.self.inside.levels c.args.n true ∙ ap
    (λ bits. set bits c.args.n true) c.self.view_is
