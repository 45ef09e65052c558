use Rattle.std.proofs.Common.{◌≡◌, ℕ, subst, false, MatchOption}
use Rattle.lnet_numbers.specs.Words.{bit}
use Rattle.lnet_numbers.specs.Least.{IsLeast}
use Rattle.lnet_numbers.proofs.Rooms.{MatchOption-take}
use Rattle.lnet_numbers.proofs.number_set.NumberSet.least.Goals as goal

pub returns : goal.returns
returns c =
    subst (λ bits. MatchOption c.least.result ((n : ℕ) → bit bits n ≡ false) (λ n. IsLeast bits n)) c.self.view_is
    (MatchOption-take c.self.inside.levels c.self.inside.room c.least.result c.self.invariant c.least.ensures)
