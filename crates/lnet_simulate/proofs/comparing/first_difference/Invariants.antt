use Rattle.std.proofs.Common.{◌<◌, ◌≤◌, ◌*◌, ◌^◌, ℕ, length}
use Rattle.lnet_simulate.specs.Assignments.{AgreeUnder, numbered}
use Rattle.lnet_simulate.specs.Comparing.{HaveSpace}
use Rattle.lnet_simulate.proofs.comparing.first_difference.Given as goal

abbrev pub invariant-loop-block : goal.invariant-loop-block
invariant-loop-block g l = record {
  space : HaveSpace l.net.core.network l.inputs l.words;
  few : length l.inputs ≤ 16;
  agree : (k : ℕ) → k < 64 * l.block → k < 2 ^ length l.net.core.network.inputs → AgreeUnder l.net.core.network l.n.0 l.s (numbered k);
}
