use Rattle.std.proofs.Common.{◌≡◌, ◌<◌, ◌≤◌}
use Rattle.lnet_sop.specs.Factored.{most_common, uses}
use Rattle.lnet_sop.proofs.factoring.most_common.Given as goal

abbrev pub invariant-loop-k : goal.invariant-loop-k
invariant-loop-k l = record {
  value : l.best ≡ most_common l.k l.cubes;
  most : l.most ≡ uses l.cubes l.best;
  leaf : 2 ≤ l.best.0;
  last : l.best.0 < 22;
}
