use Rattle.std.proofs.Common.{◌≡◌, length}
use Rattle.lnet_timing.proofs.gates.descending.Given as goal

abbrev pub invariant-loop-place : goal.invariant-loop-place
invariant-loop-place l = length l.fanins.items ≡ l.place
