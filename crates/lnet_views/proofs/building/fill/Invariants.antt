use Rattle.std.proofs.Common.{◌≡◌, ◌≤◌, ◌-◌, length, take}
use Rattle.lnet_views.proofs.building.fill.Given as goal

abbrev pub invariant-loop-values : goal.invariant-loop-values
invariant-loop-values g l = record {
  prefix : take (length l.fn.values.items) l.values.items ≡ l.fn.values.items;
  more : length l.fn.values.items ≤ length l.values.items;
  within : length l.values.items ≤ l.room;
}

abbrev pub decreases-loop-values : goal.decreases-loop-values
decreases-loop-values g l = l.room - length l.values.items
