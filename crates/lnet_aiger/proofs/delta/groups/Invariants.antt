use Rattle.std.proofs.Common.{◌≡◌, ◌-◌, ◌^◌, ◌<◌, ◌≤◌, length}
use Rattle.lnet_aiger.specs.Deltas.{groups_at}
use Rattle.lnet_aiger.proofs.DeltaLemmas.{with_low}
use Rattle.lnet_aiger.proofs.delta.groups.Given as goal

abbrev pub invariant-loop-group : goal.invariant-loop-group
invariant-loop-group l = record {
  read : with_low l.value l.scale (groups_at (5 - l.group) l.rest) ≡ groups_at 5 l.bytes;
  shorter : length l.rest ≤ length l.bytes;
  scale : l.scale ≡ 128 ^ l.group;
  low : l.value < l.scale;
}
