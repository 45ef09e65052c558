use Rattle.std.proofs.Common.{◌≡◌, length}
use Rattle.lnet_export.specs.Settling.{AreLevels, IsPath, KeepsKnown, StartsAt}
use Rattle.lnet_export.proofs.PathLemmas.{work}
use Rattle.lnet_export.proofs.levels.settle.Given as goal

abbrev pub invariant-loop-top : goal.invariant-loop-top
invariant-loop-top g l = record {
  levels : AreLevels l.net.core.network l.levels;
  path : IsPath l.net.core.network l.levels l.path.items;
  starts : StartsAt l.levels l.path.items l.fn.n;
  kept : KeepsKnown l.fn.levels l.levels;
}

abbrev pub decreases-loop-top : goal.decreases-loop-top
decreases-loop-top g l = work l.net.core.network l.levels l.path.items
