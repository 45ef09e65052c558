use Rattle.std.proofs.Common.{false, arith, ◌∙◌}
use Rattle.lnet_tables.specs.Bits.{with_bit}
use Rattle.lnet_tables.proofs.RowNumbers.{put_is}
use Rattle.lnet_sop.proofs.factoring.cleared.Goals as goal

pub returns : goal.returns
unfolding with_bit
returns c = put_is c.args.bits c.args.index false c.requires ∙ omega arith
