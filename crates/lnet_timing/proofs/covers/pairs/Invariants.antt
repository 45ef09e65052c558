use Rattle.std.proofs.Common.{◌≡◌}
use Rattle.lnet_timing.proofs.covers.pairs.Given as goal

abbrev pub invariant-loop-pair : goal.invariant-loop-pair
invariant-loop-pair l = l.table.vars ≡ 10
