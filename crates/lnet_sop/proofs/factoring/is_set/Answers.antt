use Rattle.std.proofs.Common.{ap, ◌==◌, ℕ}
use Rattle.std.proofs.lemmas.Nat.Bits.{shr_and_one}
use Rattle.lnet_tables.specs.Bits.{is_set}
use Rattle.lnet_sop.proofs.factoring.is_set.Goals as goal

pub returns : goal.returns
unfolding is_set
returns c = ap (λ (k : ℕ). k == 1) (shr_and_one c.args.bits c.args.index)
