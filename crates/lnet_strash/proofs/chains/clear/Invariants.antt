use Rattle.std.proofs.Common.{◌≡◌, ◌<◌, ℕ, None}
use Rattle.lnet_strash.specs.Chains.{link}
use Rattle.lnet_strash.proofs.chains.clear.Given as goal

abbrev pub invariant-places : goal.invariant-places
invariant-places l = (n : ℕ) → n < l.place-index → link l.items n ≡ None
