use Rattle.std.proofs.Common.{◌≡◌, ◌<◌, ℕ, [], IsSome}
use Rattle.lnet_export.specs.Settling.{AreLevels, known_at}
use Rattle.lnet_export.proofs.levels.levels_of.Given as goal

abbrev pub invariant-loop-n : goal.invariant-loop-n
invariant-loop-n g l = record {
  levels : AreLevels l.net.core.network l.levels.items;
  found : (m : ℕ) → m < l.n → IsSome (known_at l.levels.items m);
  start : l.path.items ≡ [];
}
