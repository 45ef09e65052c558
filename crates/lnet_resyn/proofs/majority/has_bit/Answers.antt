use Rattle.std.proofs.Common.{ap, ◌/◌, ◌^◌, nat_eq}
use Rattle.std.proofs.lemmas.Nat.{and_mask}
use Rattle.lnet_tables.specs.Bits.{is_set}
use Rattle.lnet_resyn.proofs.majority.has_bit.Goals as goal

pub returns : goal.returns
unfolding is_set
returns c = ap (λ z. nat_eq z 1) (and_mask (c.args.number / 2 ^ c.args.i) 1)
