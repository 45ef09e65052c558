use Rattle.std.proofs.Common.{◌<◌, length, subst, sym}
use Rattle.lnet_numbers.proofs.FourLevels.{IsTower-set}
use Rattle.lnet_numbers.proofs.levels.Levels.set.Goals as goal

pub invariant_of-self : goal.invariant_of-self
invariant_of-self c =
    let inside : c.args.n < length c.self.inside.numbers = subst (λ bits. c.args.n < length bits) (sym c.self.view_is) c.requires in
    rw (c.set.ensures, c.set-2.ensures, c.set-3.ensures, c.set-4.ensures)
    (IsTower-set c.self.inside.numbers c.self.inside.words c.self.inside.blocks c.self.inside.regions c.args.n c.self.invariant inside)
