use Rattle.std.proofs.Common.{◌≡◌, ◌≤◌, max, drop}
use Rattle.lnet_views.specs.Keeping.{tallest}
use Rattle.lnet_model.specs.Dags.{NUMBERS}
use Rattle.lnet_views.proofs.kept.level_above.Given as goal

abbrev pub invariant-loop-s : goal.invariant-loop-s
invariant-loop-s l = record {
  top : max (tallest l.levels.items (drop l.s-index l.gate.fanins)) l.top ≡ tallest l.levels.items l.gate.fanins;
  small : l.top ≤ NUMBERS;
}
