use Rattle.std.proofs.Common.{◌≡◌, map}
use Rattle.std.specs.List.{range_with_len}
use Rattle.lnet_tables.specs.Shannon.{plain}
use Rattle.lnet_gates.proofs.planning.leaf_lits.Given as goal

abbrev pub invariant-loop-p : goal.invariant-loop-p
invariant-loop-p l = l.lits.items ≡ map plain (range_with_len 0 l.p)
