use Rattle.std.proofs.Common.{arith, sym}
use Rattle.std.proofs.lemmas.Nat.Bits.{shr_and_one, bit_at-lt}
use Rattle.lnet_tables.proofs.Places.{rank_none, rank_more}
use Rattle.lnet_tables.proofs.rows.count_places.Goals as goal

pub loop-index-init : goal.loop-index-init
loop-index-init c = record { count = sym (rank_none c.args.support); few = omega arith }

pub loop-index-preserved : goal.loop-index-preserved
loop-index-preserved c =
    rw shr_and_one record {
      count = rw (c.loop-index.invariant.count) (sym (rank_more c.args.support c.loop-index.index));
      few = omega (arith, bit_at-lt c.args.support c.loop-index.index);
    }
